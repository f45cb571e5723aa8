-- Laws of the places: which states have one, and which entry stands there. Assumes nothing.
use Rattle.std.specs.Prelude.{Ok, not, ◌||◌, List, [], ◌∷◌, ◌++◌, ◌≡◌, refl, ℕ, ◌≤◌, ◌<◌, eqb, length, get_or, set, replicate}
use Rattle.std.proofs.Common.{append-nil, arith, eq-eqb, ne_eqb, length-set, get_or-set_same, get_or-set_other}
use Rattle.std.proofs.Math.Decide.{ℕ_discrete}
use Rattle.std.proofs.lemmas.List.{length-replicate, get_or-replicate}
use Rattle.number.specs.declared.Cursor.{Cursor}
use Rattle.book.specs.Range.{among}
use Rattle.book.specs.Tables.{Tables}
use Rattle.lists.specs.Entry.{entry_at}
use Rattle.lists.specs.declared.Entry.{Entry}
use Rattle.items.specs.Items.{Item, item_of}
use Rattle.course.specs.Course.{state_in, in_state}
use Rattle.course.specs.CourseLaws.{in-state-append, in-state-here, in-state-other}
use Rattle.course.specs.Turns.{Marks, PlaceOf, none, one, Places}

-- ---- no entry yet
pub marks-none : {places : List ℕ} → places ≡ replicate 128 0 → Marks places []
marks-none {places} e = record {
  size = rw e (length-replicate {A = ℕ} 128 0);
  flag = λ s h. eq-eqb (get_or places s 0) 0 (rw e (get_or-replicate {A = ℕ} 128 s 0 0 h));
}

pub places-none : (B : Tables) {t : ℕ} {bytes places : List ℕ} → places ≡ replicate 128 0 → Places B t bytes [] places
unfolding in_state
places-none B {places} e s h = let empty : get_or places s 0 ≡ 0 = rw e (get_or-replicate {A = ℕ} 128 s 0 0 h) in rw empty none

-- ---- one more, whose state had no place
pub marks-more : {places states : List ℕ} (s at : ℕ) → 1 ≤ at → Marks places states → Marks (set places s at) (s ∷ states)
marks-more {places} {states} s at l m = record { size = rw length-set m.size; flag = λ q h. go q h (ℕ_discrete q s) }
  where
    go : (q : ℕ) → q < 128 → Dec (q ≡ s) → eqb (get_or (set places s at) q 0) 0 ≡ not (eqb q s || among q states)
    go q h (yes e) =
        let here : s < length places = omega (arith, m.size) in
        rw (eq-eqb q s e, e, get_or-set_same places s at 0 here, ne_eqb at 0 (omega arith))
    go q h (no n) = rw (ne_eqb q s n, get_or-set_other places s q at 0 n) (m.flag q h)

place-free : {t : ℕ} {bytes : List ℕ} {place : ℕ} {xs : List Item} → PlaceOf t bytes place xs → place ≡ 0 → xs ≡ []
place-free none e = refl
place-free (one l f) e = absurd (omega arith)

pub places-more : (B : Tables) {t : ℕ} {bytes : List ℕ} (xs : List Item) (places : List ℕ) (at : ℕ) (e : Entry) (next : Cursor) → length places ≡ 128 → 1 ≤ at
    → entry_at t bytes at ≡ Ok (e, next) → get_or places (state_in B (item_of bytes e)) 0 ≡ 0 → Places B t bytes xs places
    → Places B t bytes (xs ++ (item_of bytes e ∷ [])) (set places (state_in B (item_of bytes e)) at)
unfolding in_state
places-more B {t} {bytes} xs places at e next size l f free p q h = rw (in-state-append B q xs (item_of bytes e ∷ [])) (go (ℕ_discrete q s))
  where
    s : ℕ
    s = state_in B (item_of bytes e)

    go : Dec (q ≡ s) → PlaceOf t bytes (get_or (set places s at) q 0) (in_state B q xs ++ in_state B q (item_of bytes e ∷ []))
    go (yes same) =
        let inside : s < length places = omega (arith, size) in
        let before : in_state B s xs ≡ [] = place-free (p s (omega arith)) free in
        rw (same, get_or-set_same places s at 0 inside, before, in-state-here B s (item_of bytes e) [] refl) (one l f)
    go (no other) =
        let not-here : ¬ (s ≡ q) = omega arith in
        rw (get_or-set_other places s q at 0 other, in-state-other B q (item_of bytes e) [] not-here, append-nil (in_state B q xs)) (p q h)
