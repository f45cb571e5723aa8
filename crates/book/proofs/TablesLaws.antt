-- Laws of the tables: what holds of every valid list of cells, and of the tables that it holds. Assumes nothing.
use Rattle.std.specs.Prelude.{true, cond, ◌&&◌, List, [], ◌++◌, ◌≢◌, ◌≡◌, refl, ℕ, suc, ◌+◌, ◌*◌, ◌%◌, ◌≤◌, ◌<◌, ltb, length, get_or, take, drop}
use Rattle.std.proofs.Math.Bool.{and-false}
use Rattle.std.proofs.lemmas.Bool.{false≢true}
use Rattle.std.proofs.Math.Path.{sym}
use Rattle.std.proofs.Common.{◌∙◌, length-append, length-drop, take-append-drop, take_all}
use Rattle.std.proofs.Math.Decide.{dec_lt, ℕ_discrete}
use Rattle.std.proofs.Math.Nat.{mul-add-mod_self_right, mod-eq_of_lt}
use native.Mathlib.Omega.{arith}
use borrow.Author.Tests.{lt-ltb, le-ltb, eq-eqb, ne_eqb, ltb-true, leb-true}
use Rattle.number.specs.TestLaws.{tests}
use Rattle.book.specs.Action.{action_of}
use Rattle.book.specs.Book.{cell_at, read, body, of_cells, book_in}
use Rattle.book.specs.PartsLaws.{total, part_length_lem, part-clean}
use Rattle.book.specs.BookLaws.{sizes-take, book-whole, cells-valid, checked-valid, whole-small, whole-count, whole-sizes, whole-segments}
use Rattle.book.specs.CellsLaws.{Fit, FitsAt, Suits, Composed, part-fits, parts-fit, fit-part, fit_parts, parts-composed, suits-fit, composed-fit, composed-length}
use Rattle.book.specs.IndexLaws.{index_below}
use Rattle.book.specs.Range.{part_length, allowed, fits}
use Rattle.book.specs.Tables.{sizes_of, tables_of}
use Rattle.book.specs.TablesLaws.{Accepted, IsBook, Holds, action_at, goto_at, InRange}
use Rattle.book.specs.declared.Action.{Action}
use Rattle.book.specs.declared.Action.TheVariants.{Error, Shift, Reduce}
use Rattle.book.specs.declared.Part.TheVariants.{Head, Ranks}
use Rattle.book.specs.declared.Sizes.{Sizes}

pub accepted-book : (cells : List ℕ) (d : Sizes) → Accepted d cells → IsBook d cells
unfolding of_cells
accepted-book cells d e =
    let book = cells-valid cells d e in
    let w = book-whole (cell_at cells) (length cells) cells (length cells) book in
    let sizes : d ≡ sizes_of cells = found (checked-valid (book_in (cell_at cells) (length cells)) d e) book in
    record { book = book; sizes = sizes; small = rw sizes (whole-small w); count = rw sizes (whole-count w) }
  where
    found : ((out : List ℕ) × (next : ℕ) × (book_in (cell_at cells) (length cells) ≡ read out next) × (d ≡ sizes_of out))
        → book_in (cell_at cells) (length cells) ≡ read cells (length cells) → d ≡ sizes_of cells
    found (out, next, is, sizes) book = let same : out ≡ cells = cc in rw same at sizes

-- each cell is in its range
module _ {d : Sizes} {cells : List ℕ} (h : IsBook d cells) where
  pub head-fits : (j : ℕ) → j < 5 → FitsAt d Head cells 0 j
  unfolding of_cells fits
  head-fits j l =
      let w = book-whole (cell_at cells) (length cells) cells (length cells) h.book in
      part-fits cells (sizes_of []) Head 0 w.head w.at w.first (omega arith) j l

  pub body-fits : Fit d body cells 5
  unfolding of_cells
  body-fits =
      let w = book-whole (cell_at cells) (length cells) cells (length cells) h.book in
      let same : sizes_of w.head ≡ d = sym (whole-sizes w) ∙ sym h.sizes in
      let (p, q) = whole-segments w in
      let five : w.at ≡ 5 = omega (arith, p.after) in
      parts-fit cells d body 5 w.rest (length cells) (rw (same, five) at w.second) (omega (arith, p.within))

-- the head, and the parts after it
pub book-composed : {d : Sizes} {cells : List ℕ} → IsBook d cells → (head : List ℕ) × (rest : List ℕ) × (cells ≡ head ++ rest) × Suits d Head head × Composed d body rest
unfolding of_cells fits
book-composed {d} {cells} h =
    let w = book-whole (cell_at cells) (length cells) cells (length cells) h.book in
    let same : sizes_of w.head ≡ d = sym (whole-sizes w) ∙ sym h.sizes in
    let head : Suits (sizes_of []) Head w.head = (part_length_lem (cell_at cells) (sizes_of []) Head 0 w.head w.at w.first, part-clean (cell_at cells) (sizes_of []) Head 0 w.head w.at w.first) in
    (w.head, w.rest, w.both, head, rw same at (parts-composed (cell_at cells) (sizes_of w.head) body w.at w.rest (length cells) w.second))

-- .. make a book
pub composed-accepted : (d : Sizes) (head rest : List ℕ) → d ≡ sizes_of (head ++ rest) → Suits d Head head → Composed d body rest
    → of_cells (head ++ rest) ≡ read (head ++ rest) (length (head ++ rest))
unfolding of_cells book_in fits
composed-accepted d head rest sizes (count, suits) c =
    let cells = head ++ rest in
    let all = composed-length d body rest c in
    let here : length cells ≡ 5 + total d body = rw (length-append, count, all) in
    let first = fit-part cells (sizes_of []) Head 0 (omega arith) (suits-fit d Head [] head rest 0 refl (count, suits)) in
    let second = fit_parts cells d body 5 (omega arith) (composed-fit d body head rest 5 count c) in
    let rest : take (total d body) (drop 5 cells) ≡ drop 5 cells = take_all (total d body) (drop 5 cells) (rw length-drop (omega arith)) in
    rw (first, sizes-take, ← sizes, second, ← here, le-ltb (length cells) (length cells) (omega arith), rest, take-append-drop)

holds-book : {d : Sizes} {cells : List ℕ} → Holds d cells → IsBook d cells
holds-book h = record { book = h.book; sizes = h.sizes; small = h.small; count = h.count }

-- in form 1 there are no ranks
pub no-ranks : {d : Sizes} {cells : List ℕ} → Holds d cells → part_length d Ranks ≡ 0
no-ranks h = rw h.form

-- ---- the four kinds of cell
module _ {d : Sizes} {cells : List ℕ} (h : Holds d cells) where
  fit : Fit d body cells 5
  fit = body-fits (holds-book h)

  pub left-side-below : (p : ℕ) → p < d.p → get_or cells (5 + 2 * p) 0 < d.n
  unfolding fits
  left-side-below p l = ltb-true _ _ (rw (eq-eqb (2 * p % 2) 0 (omega arith)) at (fit.0 (2 * p) (omega arith)))

  pub length_most : (p : ℕ) → p < d.p → get_or cells (6 + 2 * p) 0 ≤ 32
  unfolding fits
  length_most p l =
      let i : 5 + (1 + 2 * p) ≡ 6 + 2 * p = omega arith in
      leb-true _ _ (rw (i, ne_eqb ((1 + 2 * p) % 2) 0 (omega arith)) at (fit.0 (1 + 2 * p) (omega arith)))

  pub action-allowed : (q a : ℕ) → q < d.s → a < d.t → allowed d a (action_of (get_or cells (action_at d q a) 0)) ≡ true
  unfolding fits
  action-allowed q a lq la =
      let k : (q * d.t + a) % d.t ≡ a = mul-add-mod_self_right q d.t a ∙ mod-eq_of_lt la in
      let at : 5 + 2 * d.p + part_length d Ranks + (q * d.t + a) ≡ action_at d q a = omega (arith, no-ranks h) in
      rw (k, at) at (fit.1.1.0 (q * d.t + a) (index_below d.s d.t q a lq la))

  pub goto-most : (q X : ℕ) → q < d.s → X < d.n → get_or cells (goto_at d q X) 0 ≤ d.s
  unfolding fits
  goto-most q X lq lX =
      let at : 5 + 2 * d.p + part_length d Ranks + d.s * d.t + (q * d.n + X) ≡ goto_at d q X = omega (arith, no-ranks h) in
      leb-true _ _ (rw at at (fit.1.1.1.0 (q * d.n + X) (index_below d.s d.n q X lq lX)))

-- ---- the tables
-- what stands behind the guard of two bounds
guarded : {A : Type 0} (x other : A) (q a s t : ℕ) → cond (ltb q s && ltb a t) x other ≢ other → (q < s) × (a < t)
guarded x other q a s t n = go (dec_lt q s) (dec_lt a t)
  where
    go : Dec (q < s) → Dec (a < t) → (q < s) × (a < t)
    go (yes lq) (yes la) = (lq, la)
    go (yes lq) (no la) = absurd (n (rw (le-ltb a t (omega arith), and-false)))
    go (no lq) la = absurd (n (rw (le-ltb q s (omega arith))))

-- outside the ranges the action is error, and the goto none
pub act-range : (cells : List ℕ) (q a : ℕ) → (tables_of cells).act q a ≢ Error → (q < (sizes_of cells).s) × (a < (sizes_of cells).t)
unfolding tables_of
act-range cells q a n = guarded _ Error q a (sizes_of cells).s (sizes_of cells).t n

pub goto-range : (cells : List ℕ) (q X : ℕ) → (tables_of cells).goto q X ≢ 0 → (q < (sizes_of cells).s) × (X < (sizes_of cells).n)
unfolding tables_of
goto-range cells q X n = guarded _ 0 q X (sizes_of cells).s (sizes_of cells).n n

module _ {d : Sizes} {cells : List ℕ} (h : Holds d cells) where
  pub act-inside : (q a : ℕ) → q < d.s → a < d.t → (tables_of cells).act q a ≡ action_of (get_or cells (action_at d q a) 0)
  unfolding tables_of
  act-inside q a lq la =
      let at : 5 + 2 * d.p + part_length d Ranks + (q * d.t + a) ≡ action_at d q a = omega (arith, no-ranks h) in
      rw (← h.sizes, lt-ltb q d.s lq, lt-ltb a d.t la, at)

  pub goto-inside : (q X : ℕ) → q < d.s → X < d.n → (tables_of cells).goto q X ≡ get_or cells (goto_at d q X) 0
  unfolding tables_of
  goto-inside q X lq lX =
      let at : 5 + 2 * d.p + part_length d Ranks + d.s * d.t + (q * d.n + X) ≡ goto_at d q X = omega (arith, no-ranks h) in
      rw (← h.sizes, lt-ltb q d.s lq, lt-ltb X d.n lX, at)

  pub lhs-inside : (p : ℕ) → p < d.p → (tables_of cells).lhs p ≡ get_or cells (5 + 2 * p) 0
  unfolding tables_of
  lhs-inside p l = rw (← h.sizes, lt-ltb p d.p l)

  pub len-inside : (p : ℕ) → p < d.p → (tables_of cells).len p ≡ get_or cells (6 + 2 * p) 0
  unfolding tables_of
  len-inside p l = let at : 5 + (2 * p + 1) ≡ 6 + 2 * p = omega arith in rw (← h.sizes, lt-ltb p d.p l, at)

  -- an action that is not error stands inside, and is allowed there
  pub act-some : (q a : ℕ) (x : Action) → (tables_of cells).act q a ≡ x → x ≢ Error → (q < d.s) × (a < d.t) × (allowed d a x ≡ true)
  act-some q a x e n =
      let (lq, la) = rw (← h.sizes) at (act-range cells q a (λ z. n (sym e ∙ z))) in
      (lq, la, rw (sym (act-inside q a lq la) ∙ e) at (action-allowed h q a lq la))

  pub goto-some : (q X g : ℕ) → (tables_of cells).goto q X ≡ suc g → (q < d.s) × (X < d.n) × (g < d.s)
  goto-some q X g e =
      let (lq, lX) = rw (← h.sizes) at (goto-range cells q X (λ z. omega (arith, z, e))) in
      (lq, lX, omega (arith, goto-most h q X lq lX, goto-inside q X lq lX))

shift-allowed : (d : Sizes) (a s : ℕ) → allowed d a (Shift s) ≡ true → (1 ≤ a) × (s < d.s)
unfolding allowed
shift-allowed d a s e = go (ℕ_discrete a 0)
  where
    go : Dec (a ≡ 0) → (1 ≤ a) × (s < d.s)
    go (yes z) = absurd (false≢true (simp tests at e))
    go (no z) = (omega arith, ltb-true s d.s (simp tests at e))

reduce-allowed : (d : Sizes) (a p : ℕ) → allowed d a (Reduce p) ≡ true → p < d.p
unfolding allowed
reduce-allowed d a p e = ltb-true p d.p e

sized : {d : Sizes} {cells : List ℕ} → Holds d cells → ((tables_of cells).states ≡ d.s) × ((tables_of cells).terminals ≡ d.t) × ((tables_of cells).nonterminals ≡ d.n)
unfolding tables_of
sized h = rw (← h.sizes) (refl, refl, refl)

pub in-range : {d : Sizes} {cells : List ℕ} → Holds d cells → InRange (tables_of cells)
in-range {d} {cells} h = record {
  start = rw (sized h).0 h.small.some-state;
  end_mark = rw (sized h).1 h.small.some-terminal;
  shifts = λ q a s e. rw ((sized h).0, (sized h).1) (shifts q a s e);
  reduces = λ q a p e. rw ((sized h).0, (sized h).1, (sized h).2) (reduces q a p e);
  gotos = λ q X g e. rw ((sized h).0, (sized h).2) (goto-some h q X g e);
}
  where
    shifts : (q a s : ℕ) → (tables_of cells).act q a ≡ Shift s → (q < d.s) × (1 ≤ a) × (a < d.t) × (s < d.s)
    shifts q a s e =
        let (lq, la, ok) = act-some h q a (Shift s) e (λ z. absurd (let k : ◌≡◌ {A = ℕ} 0 1 = cc in omega arith)) in
        let (some, ls) = shift-allowed d a s ok in
        (lq, some, la, ls)

    reduces : (q a p : ℕ) → (tables_of cells).act q a ≡ Reduce p → (q < d.s) × (a < d.t) × ((tables_of cells).lhs p < d.n) × ((tables_of cells).len p ≤ 32)
    reduces q a p e =
        let (lq, la, ok) = act-some h q a (Reduce p) e (λ z. absurd (let k : ◌≡◌ {A = ℕ} 0 1 = cc in omega arith)) in
        let lp = reduce-allowed d a p ok in
        (lq, la, rw (lhs-inside h p lp) (left-side-below h p lp), rw (len-inside h p lp) (length_most h p lp))
