-- Laws of the work cells: how many they are at most, and that clearing them takes away what stood there. Assumes nothing.
use Rattle.std.specs.Prelude.{List, ◌++◌, ◌≡◌, ℕ, ◌+◌, ◌*◌, ◌-◌, ◌≤◌, replicate, drop}
use Rattle.std.proofs.Common.{sym, ◌∙◌, ap, arith, length-drop, ext_get_or, get_or-drop}
use Rattle.std.proofs.lemmas.List.{length-replicate}
use Rattle.number.specs.Lent.{over}
use Rattle.book.specs.Call.{Tells}
use Rattle.book.specs.IndexLaws.{mul_small}
use Rattle.book.specs.RangeLaws.{Small}
use Rattle.book.specs.declared.Sizes.{Sizes}
use Rattle.layers.specs.Crossing.{room as table_room}
use Rattle.crossings.specs.Crossings.{Beyond}
use Rattle.work.specs.Work.{work_cells, cleared}

-- the work cells are few enough to count
pub record Room (d : Sizes) : Type 0 where
  pub squares : d.t * d.t ≤ 1024
  pub layers : d.t * d.t * d.s ≤ 131072
  pub work : work_cells d ≤ 5242880

pub room : {d : Sizes} → Small d → Room d
room {d} h =
    let squares = mul_small d.t 32 d.t 32 h.terminals h.terminals in
    let layers = mul_small (d.t * d.t) 1024 d.s 128 squares h.states in
    record { squares = squares; layers = layers; work = mul_small (d.t * d.t * d.s) 131072 (d.n + 8) 40 layers (omega (arith, h.nonterminals)) }

-- zeros at the front
pub over_zeros : (n : ℕ) (lent : List ℕ) → over (replicate n 0) lent ≡ replicate n 0 ++ drop n lent
over_zeros n lent = ap (λ (k : ℕ). replicate n 0 ++ drop k lent) (length-replicate n 0)

-- zeros over cells of which only covered ones have changed
beyond-cleared : {n m : ℕ} {old new : List ℕ} → n ≤ m → Beyond n old new → over (replicate m 0) new ≡ over (replicate m 0) old
beyond-cleared {n} {m} {old} {new} h b =
    over_zeros m new
    ∙ ap (λ (l : List ℕ). replicate m 0 ++ l) (ext_get_or 0 (drop m new) (drop m old) (length-drop m new ∙ ap (λ (k : ℕ). k - m) b.size ∙ sym (length-drop m old)) (λ i l. get_or-drop m new i 0 ∙ b.rest (m + i) (omega arith) ∙ sym (get_or-drop m old i 0)))
    ∙ sym (over_zeros m old)

-- the crossing table stands in the work cells, so that clearing them takes it away
pub work-cleared : (d : Sizes) {n : ℕ} {old new left : List ℕ} → Beyond (table_room d) old new → n ≡ work_cells d → left ≡ over (replicate n 0) new → left ≡ cleared d old
work-cleared d b e f = f ∙ rw e (beyond-cleared {m = work_cells d} (omega arith) b)

-- what was told, with the work cells cleared beside it
pub told-cleared : {Answer Lent Thing : Type 0} {Right : Thing → Type 0} {tell : Thing → Answer × Lent} {r : Answer} {left : Lent}
    {work worked : List ℕ} → Tells Right tell (r, left) → worked ≡ work
    → Tells {Told = Answer × (List ℕ × Lent)} Right (λ x. ((tell x).0, (work, (tell x).1))) (r, (worked, left))
told-cleared {Answer} {Lent} {work = work} t e = record {
  thing = t.thing;
  right = t.right;
  same = rw e (ap (λ (p : Answer × Lent). (p.0, (work, p.1))) t.same);
}
