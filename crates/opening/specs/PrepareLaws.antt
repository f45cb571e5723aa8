-- Laws of what is prepared. Assumes nothing.
use Rattle.number.specs.declared.cause.Refusal.{Refusal}
use Rattle.std.specs.Prelude.{Result, Ok, Err, List, ◌≡◌, refl, ℕ, ◌+◌, ◌-◌, ◌≤◌, length, drop}
use Rattle.std.proofs.Common.{sym, ◌∙◌, ap, arith, le-leb, ltb-false, length-drop, ext_get_or, get_or-drop}
use Rattle.std.proofs.Math.Decide.{dec_le}
use Rattle.std.proofs.lemmas.Bool.{lt-leb}
use Rattle.book.specs.Book.{Row, read, refused as unread, of_bytes, of_cells, checked, delivered, reading}
use Rattle.book.specs.Call.{steps, admits, Concludes}
use Rattle.book.specs.CallLaws.{steps-none, call-admitted}
use Rattle.book.specs.TablesLaws.{Accepted, Holds}
use Rattle.book.specs.declared.Sizes.{Sizes}
use Rattle.machine.specs.MachineLaws.{clash}
use Rattle.forms.specs.Forms.{in_form_1}
use Rattle.forms.specs.FormsLaws.{with_form}
use Rattle.forms.proofs.FormsLaws.{plain-holds}
use Rattle.walk.specs.Scale.{plain}
use Rattle.crossings.specs.Crossings.{CrossingTable, Beyond}
use Rattle.work.specs.Work.{work_cells}
use Rattle.opening.specs.Prepare.{listing_refusals, Built, Prepared}

pub listing-room : (work : ℕ) (d : Sizes) {x : Sizes} → steps (Ok d) (listing_refusals work d) ≡ Ok x → work_cells d ≤ work
unfolding listing_refusals
listing-room work d e = let (same, (room, end)) = steps-none (listing_refusals work d) e in ltb-false _ _ room

-- cells from n on are the same list
pub beyond-same : {n : ℕ} {old new : List ℕ} → Beyond n old new → drop n new ≡ drop n old
beyond-same {n} {old} {new} b =
    ext_get_or 0 (drop n new) (drop n old) (length-drop n new ∙ ap (λ (k : ℕ). k - n) b.size ∙ sym (length-drop n old))
    (λ i l. get_or-drop n new i 0 ∙ b.rest (n + i) (omega arith) ∙ sym (get_or-drop n old i 0))

-- what the functions that follow ask
pub record TableReady (cells table : List ℕ) (d : Sizes) : Type 0 where
  pub book : Accepted d cells
  pub holds : Holds (with_form 1 d) (in_form_1 cells)
  pub crossings : CrossingTable plain (with_form 1 d) (in_form_1 cells) table

pub prepared-ready : {cells work left : List ℕ} {found : Result Sizes Refusal} {d : Sizes} → Prepared cells work found left → found ≡ Ok d → TableReady cells left d
prepared-ready {cells} {work} {left} {found} {d} p f = go (admits (checked (of_cells cells)) (listing_refusals (length work))) refl p.ends
  where
    go : (a : Result Sizes Refusal) → admits (checked (of_cells cells)) (listing_refusals (length work)) ≡ a
        → Concludes a Err work (Built cells work) (λ x table. (Ok x, table)) (found, left)
        → TableReady cells left d
    go (Err r) e c = let g = ap (λ (p : Result Sizes Refusal × List ℕ). p.0) c in absurd (clash cc)
    go (Ok x) e c =
        let g = ap (λ (p : Result Sizes Refusal × List ℕ). p.0) c.same in
        let here : left ≡ c.thing = ap (λ (p : Result Sizes Refusal × List ℕ). p.1) c.same in
        let same : x ≡ d = cc in
        let book : Accepted x cells = (call-admitted (checked (of_cells cells)) (listing_refusals (length work)) x e).0 in
        rw (← same, here) (record { book = book; holds = plain-holds x cells book; crossings = c.right.0 })

-- ---- a book that was read is no longer than the cells
delivered-most : (row : Row) (lent : List ℕ) (n : ℕ) → Ok n ≡ (delivered (λ c. c) row lent).0 → n ≤ length lent
delivered-most (unread r) lent n e = absurd (clash cc)
delivered-most (read cells at) lent n e = go (dec_le (length cells) (length lent))
  where
    go : Dec (length cells ≤ length lent) → n ≤ length lent
    go (yes h) =
        let f = rw (le-leb (length cells) (length lent) h) at e in
        let same : n ≡ length cells = cc in
        omega arith
    go (no h) = let f = rw (lt-leb (length cells) (length lent) (omega arith)) at e in absurd (clash cc)

pub read-most : (bytes lent left : List ℕ) (w : Result ℕ Refusal) (n : ℕ) → (w, left) ≡ reading bytes lent → w ≡ Ok n → n ≤ length lent
unfolding reading
read-most bytes lent left w n e f = delivered-most (of_bytes bytes) lent n (sym f ∙ ap (λ (p : Result ℕ Refusal × List ℕ). p.0) e)
