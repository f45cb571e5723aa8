-- The forms of a book, and the converters from one to the other. Assumes nothing.
use Rattle.number.specs.declared.cause.Cause.{Cause}
use Rattle.number.specs.Number.{refused_at}
use Rattle.number.specs.declared.cause.Refusal.{Refusal}
use Rattle.std.specs.Prelude.{Result, Bool, cond, not, List, [], ◌∷◌, ◌++◌, take, drop, ℕ, zero, suc, ◌+◌, ltb, eqb}
use Rattle.number.specs.Lent.{firsts}
use Rattle.book.specs.Book.{Row, of_cells, delivered}
use Rattle.book.specs.Tables.{sizes_of, part_start, rank_of}
use Rattle.book.specs.declared.{Part.Part}

-- the book of the cells with another form and other ranks: all that stands before the ranks and after them stays
unfoldable pub in_form : ℕ → List ℕ → List ℕ → List ℕ
in_form form ranks cells =
    let d = sizes_of cells in
    (form ∷ drop 1 (take (part_start d Part.Ranks) cells)) ++ (ranks ++ drop (part_start d Part.Actions) cells)

-- in form 1, which has no ranks
abbrev pub in_form_1 : List ℕ → List ℕ
in_form_1 cells = in_form 1 [] cells

-- in form 2, with 'one rank per terminal'
abbrev pub in_form_2 : List ℕ → List ℕ
in_form_2 cells = in_form 2 (firsts (rank_of cells) (sizes_of cells).t) cells

-- the lowest of n numbers from a on that passes a test, or the number after them
unfoldable pub lowest : (ℕ → Bool) → ℕ → ℕ → ℕ
lowest test zero a = a
lowest test (suc n) a = cond (test a) a (lowest test n (suc a))

-- '17, on the way to form 1, a rank that is not its terminal's number, after the book's checks': the first of them, at its cell
abbrev pub in_order : Row → Row
in_order (Row.refused r) = Row.refused r
in_order (Row.read cells at) =
    let d = sizes_of cells in
    let a = lowest (λ a. not (eqb (rank_of cells a) a)) d.t 0 in
    cond (ltb a d.t) (Row.refused (refused_at Cause.Order (part_start d Part.Ranks + a))) (Row.read cells at)

-- what the converters answer and leave in the lent cells: 'A converter turns form 1 into form 2, and back where each rank is its terminal's
-- number'. 'a book of the wanted form returns as it is' is a law
unfoldable pub to_form_1 : List ℕ → List ℕ → Result ℕ Refusal × List ℕ
to_form_1 cells lent = delivered in_form_1 (in_order (of_cells cells)) lent

unfoldable pub to_form_2 : List ℕ → List ℕ → Result ℕ Refusal × List ℕ
to_form_2 cells lent = delivered in_form_2 (of_cells cells) lent
