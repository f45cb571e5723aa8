-- Laws of books that differ in no more than form and ranks, and of a book in its own form and back. Assumes nothing.
use Rattle.std.specs.Prelude.{Ok, not, List, [], ◌∷◌, ◌++◌, ◌≢◌, ◌≡◌, ℕ, ◌≤◌, ◌<◌, eqb, length, get_or, drop}
use Rattle.std.proofs.Math.Path.{refl}
use Rattle.std.proofs.Common.{sym, ◌∙◌, ap, ap₂, zero-add, arith, eq-eqb, le-leb, ext_get_or}
use std.Path.{fun_ext}
use Rattle.std.proofs.Math.Decide.{ℕ_discrete}
use Rattle.number.specs.Lent.{over, firsts}
use Rattle.number.specs.LentLaws.{firsts-length, firsts-entry}
use Rattle.book.specs.Book.{Row, read, of_cells, delivered}
use Rattle.book.specs.CellsLaws.{Suits}
use Rattle.book.specs.Range.{fits}
use Rattle.book.proofs.SeenLaws.{by-number-suit}
use Rattle.book.specs.Tables.{sizes_of, tables_of, rank_of}
use Rattle.book.specs.TablesLaws.{Accepted, IsBook}
use Rattle.book.proofs.TablesLaws.{accepted-book}
use Rattle.book.specs.declared.Part.TheVariants.{Ranks}
use Rattle.book.specs.declared.Sizes.{Sizes}
use Rattle.forms.specs.Forms.{in_form, in_form_1, in_form_2, lowest, in_order, to_form_1, to_form_2}
use Rattle.forms.specs.FormsLaws.{with_form}
use Rattle.forms.proofs.FormsLaws.{Split, book-split, split-accepted, in-form, reformed, rank-cell, reformed-rank, last-form, plain-holds, plain-tables}
use Rattle.forms.specs.RankLaws.{rank-told, rank-number, lowest-none}
use Rattle.forms.proofs.WritingLaws.{in_order_lem}
use Rattle.forms.specs.AlikeLaws.{Alike}

module _ (d e : Sizes) (cells other : List ℕ) (a : Alike d e cells other) where
  -- they have the same tables and the same sizes, whatever their ranks
  pub alike-tables : tables_of cells ≡ tables_of other
  alike-tables = sym (plain-tables d cells a.first) ∙ ap tables_of a.plain ∙ plain-tables e other a.second

  pub alike-sizes : with_form 1 d ≡ with_form 1 e
  alike-sizes = (plain-holds d cells a.first).sizes ∙ ap sizes_of a.plain ∙ sym (plain-holds e other a.second).sizes

-- ---- a head begins with the form
split-head : {d : Sizes} {cells : List ℕ} (s : Split d cells) → d.form ∷ drop 1 s.head ≡ s.head
unfolding sizes_of
split-head {d} {cells} s =
    let form : d.form ≡ get_or (s.head ++ (s.productions ++ (s.ranks ++ s.tail))) 0 0 = ap (λ (d : Sizes). d.form) s.sizes ∙ rw s.whole in
    go s.head s.head-suits.0 form
  where
    go : (head : List ℕ) → length head ≡ 5 → d.form ≡ get_or (head ++ (s.productions ++ (s.ranks ++ s.tail))) 0 0 → d.form ∷ drop 1 head ≡ head
    go [] l f = absurd (omega arith)
    go (x ∷ head) l f = rw f

module _ {d : Sizes} {cells : List ℕ} (s : Split d cells) where
  -- with its own form and its own ranks a book is itself
  same-form : (ranks : List ℕ) → ranks ≡ s.ranks → in_form d.form ranks cells ≡ cells
  same-form ranks e = in-form s d.form ranks ∙ ap₂ (λ (head ranks : List ℕ). head ++ (s.productions ++ (ranks ++ s.tail))) (split-head s) e ∙ sym s.whole

module _ (d : Sizes) (cells : List ℕ) (e : Accepted d cells) where
  book : IsBook d cells
  book = accepted-book cells d e

  split : Split d cells
  split = book-split book

  -- the terminals by number
  by_number : d.form ≢ 2 → rank_of cells ≡ (λ a. a)
  by_number n = fun_ext (λ a. rank-number d cells e a n)

  -- the ranks of a book in form 2 are its part of them
  split-ranks : d.form ≡ 2 → firsts (rank_of cells) d.t ≡ split.ranks
  split-ranks f =
      let count : length split.ranks ≡ d.t = split.ranks-suit.0 ∙ rw f in
      ext_get_or 0 (firsts (rank_of cells) d.t) split.ranks (firsts-length (rank_of cells) d.t ∙ sym count) (λ i l.
      (let k : i < d.t = omega (arith, firsts-length (rank_of cells) d.t) in
      firsts-entry (rank_of cells) d.t i k ∙ rank-told d cells e i f ∙ rank-cell split i (rw f k)))

  -- in either form they suit form 2
  ranks-suit : Suits (with_form 2 d) Ranks (firsts (rank_of cells) d.t)
  unfolding fits
  ranks-suit = go (ℕ_discrete d.form 2)
    where
      go : Dec (d.form ≡ 2) → Suits (with_form 2 d) Ranks (firsts (rank_of cells) d.t)
      go (yes f) = let suit : Suits d Ranks split.ranks = split.ranks-suit in rw (split-ranks f) (suit.0 ∙ rw f, λ i l. suit.1 i (rw f l))
      go (no n) = rw (by_number n) (by-number-suit (with_form 2 d) d.t refl (omega arith))

  sizes-same : (sizes_of cells).t ≡ d.t
  sizes-same = rw (← book.sizes)

  form2-split : Split (with_form 2 d) (in_form_2 cells)
  form2-split = rw sizes-same (reformed split 2 (omega arith) (omega arith) (firsts (rank_of cells) d.t) ranks-suit)

  -- ---- a book and its form 2
  -- are alike, so that they have the same tables and sizes ..
  pub form2-alike : Alike d (with_form 2 d) cells (in_form_2 cells)
  form2-alike = record {
    first = e;
    second = split-accepted form2-split;
    plain = rw sizes-same (sym (last-form split 2 (omega arith) (omega arith) (firsts (rank_of cells) d.t) ranks-suit 1 []));
  }

  -- .. and each terminal has the same rank
  pub form2-ranks : (a : ℕ) → a < d.t → rank_of (in_form_2 cells) a ≡ rank_of cells a
  form2-ranks a l =
      rank-told (with_form 2 d) (in_form_2 cells) (split-accepted form2-split) a refl
      ∙ rw sizes-same (reformed-rank split 2 (omega arith) (omega arith) (firsts (rank_of cells) d.t) ranks-suit a l ∙ firsts-entry (rank_of cells) d.t a l)

  -- ---- 'a book of the wanted form returns as it is'
  pub form1-kept : d.form ≡ 1 → in_form_1 cells ≡ cells
  form1-kept f =
      let none : [] ≡ split.ranks = ext_get_or 0 [] split.ranks (sym (split.ranks-suit.0 ∙ rw f)) (λ i l. absurd (omega arith)) in
      rw f at (same-form split [] none)

  pub form2-kept : d.form ≡ 2 → in_form_2 cells ≡ cells
  form2-kept f = rw sizes-same (rw f at (same-form split (firsts (rank_of cells) d.t) (split-ranks f)))

  -- to form 2 and back is the book
  pub form2-back : d.form ≡ 1 → in_form_1 (in_form_2 cells) ≡ cells
  form2-back f = sym form2-alike.plain ∙ form1-kept f

  -- where each rank is its terminal's number nothing is refused on the way to form 1
  pub ordered : ((a : ℕ) → a < d.t → rank_of cells a ≡ a) → in_order (of_cells cells) ≡ read cells (length cells)
  ordered f =
      let last : lowest (λ a. not (eqb (rank_of cells a) a)) d.t 0 ≡ d.t =
      lowest-none (λ a. not (eqb (rank_of cells a) a)) d.t 0 (λ k h l. rw (eq-eqb (rank_of cells k) k (f k (omega arith)))) ∙ zero-add d.t in
      in_order_lem d cells e (omega (arith, last))

-- what the converters deliver to one of the wanted form is the book itself, and so is what they deliver there and back
module _ (d : Sizes) (cells : List ℕ) (e : Accepted d cells) (lent : List ℕ) (room : length cells ≤ length lent) where
  delivers : (f : List ℕ → List ℕ) (other : List ℕ) (w : Row) → w ≡ read other (length other) → f other ≡ cells → delivered f w lent ≡ (Ok (length cells), over cells lent)
  delivers f other w g same = rw (g, same, le-leb (length cells) (length lent) room)

  pub to-form-1-kept : d.form ≡ 1 → to_form_1 cells lent ≡ (Ok (length cells), over cells lent)
  unfolding to_form_1
  to-form-1-kept f = delivers in_form_1 cells _ (ordered d cells e (λ a l. rank-number d cells e a (λ g. omega (arith, f, g)))) (form1-kept d cells e f)

  pub to-form-2-kept : d.form ≡ 2 → to_form_2 cells lent ≡ (Ok (length cells), over cells lent)
  unfolding to_form_2
  to-form-2-kept f = delivers in_form_2 cells _ (accepted-book cells d e).book (form2-kept d cells e f)

  pub there_and_back : d.form ≡ 1 → to_form_1 (in_form_2 cells) lent ≡ (Ok (length cells), over cells lent)
  unfolding to_form_1
  there_and_back f =
      let a = form2-alike d cells e in
      let own : (a : ℕ) → a < d.t → rank_of (in_form_2 cells) a ≡ a = λ a l. form2-ranks d cells e a l ∙ rank-number d cells e a (λ g. omega (arith, f, g)) in
      delivers in_form_1 (in_form_2 cells) _ (ordered (with_form 2 d) (in_form_2 cells) a.second own) (form2-back d cells e f)
