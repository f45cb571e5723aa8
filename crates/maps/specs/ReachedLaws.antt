-- Laws of the sets: they are read off exact distances, and written one after the other. Assumes nothing.
use Rattle.std.specs.Prelude.{Ok, true, List, [], ◌∷◌, ◌↔◌, ◌≡◌, ℕ, ◌+◌, ◌≤◌, ◌<◌, length, get_or}
use Rattle.std.proofs.Math.Path.{refl}
use Rattle.std.proofs.Common.{sym, ◌∙◌, ap, add-one, arith, get_or-take, get_or-drop}
use Rattle.std.proofs.Math.ListN.{set, length-set}
use Rattle.number.specs.Lent.{over, firsts}
use Rattle.number.specs.LentLaws.{over-more, firsts-length, firsts-entry}
use Rattle.book.specs.declared.Sizes.{Sizes}
use Rattle.book.specs.Tables.{tables_of}
use Rattle.machine.specs.Machine.{Reaches}
use Rattle.sets.specs.Set.{set_of}
use Rattle.sets.specs.Bits.{below}
use Rattle.walk.proofs.CostLaws.{exact-reached}
use Rattle.walk.specs.Scale.{plain, unreached}
use Rattle.layers.specs.Layer.{entry_in}
use Rattle.distances.specs.Distances.{StartTable}
use Rattle.maps.specs.Admitted.{Gathered}
use Rattle.maps.specs.Rows.{row}
use Rattle.maps.specs.RowsLaws.{row-of-length}
use Rattle.maps.specs.Reached.{reached_in, mask_in, size_in}

-- ---- what is written
-- the first q numbers of a function stand at the front
pub record SetsStored (f : ℕ → ℕ) (lent now : List ℕ) (q : ℕ) : Type 0 where
  pub size : length now ≡ length lent
  pub front : now ≡ over (firsts f q) lent

module _ {f : ℕ → ℕ} {lent : List ℕ} where
  pub stored-none : SetsStored f lent lent 0
  unfolding firsts
  stored-none = record { size = refl; front = refl }

  pub stored_more : {now : List ℕ} {q v : ℕ} → SetsStored f lent now q → q < length lent → v ≡ f q → SetsStored f lent (set now q v) (q + 1)
  unfolding firsts
  stored_more {now} {q} {v} s h e = record {
    size = length-set now q v ∙ s.size;
    front =
        let here = firsts-length f q in
        rw (e, s.front, add-one)
        (ap (λ (k : ℕ). set (over (firsts f q) lent) k (f q)) (sym here) ∙ over-more (firsts f q) (f q ∷ []) lent (rw here (omega arith)));
  }

-- ---- what is reached
row-entry : (dist : List ℕ) (t q z : ℕ) → z < t → get_or (row dist t q) z 0 ≡ entry_in dist q z
unfolding entry_in
row-entry dist t q z h = rw (get_or-take, get_or-drop)

-- what a row of the distances from the start says of its pairs
pub row-reached : {d : Sizes} {cells dist : List ℕ} → StartTable plain d cells dist → (s z : ℕ) → s < d.s → z < d.t
    → (reached_in dist d.t s z ≡ true) ↔ ((w : List ℕ) × Reaches (tables_of cells) w z s)
row-reached {d} {dist = dist} x s z hs hz = rw (row-entry dist d.t s z hz) (exact-reached (x.exact s z hs hz))

-- the set of a row that was cut out
pub mask-cut : (dist : List ℕ) (t q n : ℕ) → length dist ≡ 4096 → q < 128 → t ≤ 32 → n ≡ t
    → set_of (below (row dist n q) (unreached plain)) (length (row dist n q)) ≡ mask_in dist t q
mask-cut dist t q n l h k e = rw e (ap (set_of (reached_in dist t q)) (row-of-length dist t l k q h))

-- the sets of the distances from the start
pub sets-gathered : {d : Sizes} {cells dist masks sizes masks_left sizes_left : List ℕ} → StartTable plain d cells dist
    → masks_left ≡ over (firsts (mask_in dist d.t) d.s) masks → sizes_left ≡ over (firsts (size_in dist d.t) d.s) sizes
    → Gathered cells d masks sizes (Ok d.s) (masks_left, sizes_left)
sets-gathered {d} {cells} {dist} x e g = record {
  thing = (firsts (mask_in dist d.t) d.s, firsts (size_in dist d.t) d.s);
  right = record {
    reached = reached_in dist d.t;
    decides = row-reached x;
    many = firsts-length (mask_in dist d.t) d.s;
    mask = λ s h. firsts-entry (mask_in dist d.t) d.s s h;
    beside = firsts-length (size_in dist d.t) d.s;
    size = λ s h. firsts-entry (size_in dist d.t) d.s s h;
  };
  same = rw (e, g);
}
