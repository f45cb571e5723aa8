-- Laws of the code that writes a book in another form. Assumes nothing.
use Rattle.number.specs.declared.cause.Cause.{Cause}
use Rattle.number.specs.Number.{refused_at}
use Rattle.std.specs.Prelude.{Err, not, List, [], ◌∷◌, ◌++◌, ◌≡◌, ℕ, suc, ◌+◌, ◌*◌, ◌-◌, ◌≤◌, ◌<◌, eqb, length, take, drop, set}
use Rattle.std.proofs.Common.{append_assoc, sym, ◌∙◌, ap, arith, length-append, length-drop, length-take-le}
use borrow.Author.Tests.{lt-ltb, le-ltb}
use Rattle.std.proofs.Math.Seq.{paste}
use Rattle.number.specs.Lent.{over, firsts}
use Rattle.number.specs.LentLaws.{over-paste, firsts-length}
use Rattle.book.specs.Book.{read, of_cells}
use Rattle.book.specs.Range.{part_length}
use Rattle.book.specs.RangeLaws.{ranks-few, actions-few, gotos-few}
use Rattle.book.specs.Tables.{sizes_of, rank_of}
use Rattle.book.specs.TablesLaws.{Accepted, IsBook}
use Rattle.book.proofs.TablesLaws.{accepted-book}
use Rattle.book.specs.declared.Part.TheVariants.{Ranks}
use Rattle.book.specs.declared.Sizes.{Sizes}
use Rattle.forms.specs.Forms.{in_form, in_form_1, in_form_2, lowest, in_order, to_form_1}

-- how long a book is, and its parts before the tables
pub record Bounds (d : Sizes) (cells : List ℕ) : Type 0 where
  pub some-terminal : 1 ≤ d.t
  pub terminals : d.t ≤ 32
  pub productions : d.p ≤ 128
  pub ranks : part_length d Ranks ≤ d.t
  pub start : 5 + 2 * d.p + part_length d Ranks ≤ length cells
  pub most : length cells ≤ 8453 + part_length d Ranks

-- the front of a book in a form
abbrev pub front_in : ℕ → Sizes → List ℕ → List ℕ
front_in form d cells = form ∷ drop 1 (take (5 + 2 * d.p) cells)

module _ (d : Sizes) (cells : List ℕ) (e : Accepted d cells) where
  book : IsBook d cells
  book = accepted-book cells d e

  pub bounds : Bounds d cells
  bounds = record {
    some-terminal = book.small.some-terminal;
    terminals = book.small.terminals;
    productions = book.small.productions;
    ranks = ranks-few d;
    start = omega (arith, book.count);
    most = omega (arith, book.count, book.small.productions, actions-few d book.small, gotos-few d book.small);
  }

  front_length : (form : ℕ) → length (front_in form d cells) ≡ 5 + 2 * d.p
  front_length form = rw (length-drop, length-take-le (5 + 2 * d.p) cells (omega (arith, bounds.start))) (omega arith)

  -- the form is stored, and the cells after it are copied
  pub front-written : (form : ℕ) (lent : List ℕ) → 1 ≤ length lent → paste (set lent 0 form) 1 (drop 1 cells) (4 + 2 * d.p) ≡ over (front_in form d cells) lent
  front-written form lent h =
      go cells lent (omega (arith, bounds.start)) h ∙ ap (λ (k : ℕ). front_in form d cells ++ drop k lent) (sym (front_length form))
    where
      go : (cells lent : List ℕ) → 1 ≤ length cells → 1 ≤ length lent → paste (set lent 0 form) 1 (drop 1 cells) (4 + 2 * d.p) ≡ front_in form d cells ++ drop (5 + 2 * d.p) lent
      go [] lent some h = absurd (omega arith)
      go (y ∷ cells) [] some h = absurd (omega arith)
      go (y ∷ cells) (x ∷ lent) some h =
          let k : 5 + 2 * d.p ≡ suc (4 + 2 * d.p) = omega arith in
          let j : 1 + (4 + 2 * d.p) ≡ suc (4 + 2 * d.p) = omega arith in
          rw (k, j)

  -- what stands after the ranks
  abbrev pub back : List ℕ
  back = drop (5 + 2 * d.p + part_length d Ranks) cells

  in-form-is : (form : ℕ) (ranks : List ℕ) → in_form form ranks cells ≡ front_in form d cells ++ (ranks ++ back)
  unfolding in_form
  in-form-is form ranks = rw (← book.sizes)

  pub form1-length : length (in_form_1 cells) ≡ length cells - part_length d Ranks
  form1-length = rw (in-form-is 1 [], length-append, front_length 1, length-drop) (omega (arith, bounds.start))

  pub form2-length : length (in_form_2 cells) ≡ length cells - part_length d Ranks + d.t
  form2-length =
      rw (in-form-is 2 (firsts (rank_of cells) (sizes_of cells).t), length-append, front_length 2, length-append, length-drop, firsts-length, ← book.sizes) (omega (arith, bounds.start))

  pub plain-written : (lent : List ℕ)
      → paste (over (front_in 1 d cells) lent) (5 + 2 * d.p) back (length cells - (5 + 2 * d.p + part_length d Ranks)) ≡ over (in_form_1 cells) lent
  plain-written lent =
      over-paste (front_in 1 d cells) back lent (5 + 2 * d.p) _ (front_length 1) (length-drop (5 + 2 * d.p + part_length d Ranks) cells)
      ∙ ap (λ (l : List ℕ). over l lent) (sym (in-form-is 1 []))

  pub ranked-written : (lent : List ℕ)
      → paste (paste (over (front_in 2 d cells) lent) (5 + 2 * d.p) (firsts (rank_of cells) d.t) d.t) (5 + 2 * d.p + d.t) back (length cells - (5 + 2 * d.p + part_length d Ranks))
      ≡ over (in_form_2 cells) lent
  ranked-written lent =
      let front = front_in 2 d cells in
      let ranks = firsts (rank_of cells) d.t in
      let first = over-paste front ranks lent (5 + 2 * d.p) d.t (front_length 2) (firsts-length (rank_of cells) d.t) in
      let long : length (front ++ ranks) ≡ 5 + 2 * d.p + d.t = rw (length-append, front_length 2, firsts-length (rank_of cells) d.t) in
      let same : (sizes_of cells).t ≡ d.t = rw (← book.sizes) in
      rw (first, same)
      (over-paste (front ++ ranks) back lent (5 + 2 * d.p + d.t) _ long (length-drop (5 + 2 * d.p + part_length d Ranks) cells)
      ∙ ap (λ (l : List ℕ). over l lent) (append_assoc front ranks back ∙ sym (in-form-is 2 ranks)))

  -- ---- the verdict on the way to form 1
  abbrev pub moved : ℕ
  moved = lowest (λ a. not (eqb (rank_of cells a) a)) d.t 0

  pub moved-refused : (lent : List ℕ) → moved < d.t → (Err (refused_at Cause.Order (5 + 2 * d.p + moved)), lent) ≡ to_form_1 cells lent
  unfolding to_form_1
  moved-refused lent h = rw (book.book, ← book.sizes, lt-ltb moved d.t h)

  pub in_order_lem : d.t ≤ moved → in_order (of_cells cells) ≡ read cells (length cells)
  in_order_lem h = rw (book.book, ← book.sizes, le-ltb moved d.t h)
