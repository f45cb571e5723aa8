-- Laws of the crossing table's index, and of the tables' sizes. Assumes nothing.
use Rattle.std.specs.Prelude.{List, ◌≡◌, ℕ, zero, suc, ◌+◌, ◌*◌, ◌≤◌, ◌<◌, length}
use Rattle.std.proofs.Common.{sym, add-mul, mul_assoc, arith}
use Rattle.book.specs.IndexLaws.{index_below, row_below, index-first, index-second, mul_small}
use Rattle.book.specs.RangeLaws.{Small}
use Rattle.book.specs.Tables.{tables_of}
use Rattle.book.specs.TablesLaws.{Holds}
use Rattle.book.proofs.TablesLaws.{goto-some, left-side-below, length_most, lhs-inside, len-inside}
use Rattle.book.specs.declared.Sizes.{Sizes}
use Rattle.layers.specs.Crossing.{room, crossing_row, Fitted}
use Rattle.layers.specs.Starts.{crossing_block}

-- the sizes of the tables are those that the book says
module _ {d : Sizes} {cells : List ℕ} (h : Holds d cells) where
  pub terminals-are : (tables_of cells).terminals ≡ d.t
  unfolding tables_of
  terminals-are = rw (← h.sizes)

  pub terminal : {b : ℕ} → b < d.t → b < (tables_of cells).terminals
  terminal l = rw terminals-are l

  pub within : {b : ℕ} → b < (tables_of cells).terminals → b < d.t
  within {b} l = omega (arith, terminals-are)

  pub states-are : (tables_of cells).states ≡ d.s
  unfolding tables_of
  states-are = rw (← h.sizes)

  -- what is read as a goto is no more than a state + 1
  pub goto-least : (q X : ℕ) {r : ℕ} → r ≡ (tables_of cells).goto q X → (r ≤ d.s) × (r ≤ 128)
  goto-least q X {r} e = go r e
    where
      go : (r : ℕ) → r ≡ (tables_of cells).goto q X → (r ≤ d.s) × (r ≤ 128)
      go zero e = omega arith
      go (suc g) e = omega (arith, (goto-some h q X g (sym e)).2, h.small.states)

  -- .. and what is read as a production's left side or length
  pub left_below : {p r : ℕ} → r ≡ (tables_of cells).lhs p → p < d.p → (r < d.n) × (r < 32)
  left_below {p} e l = rw (e, lhs-inside h p l) (omega (arith, left-side-below h p l, h.small.nonterminals))

  pub length-below : {p r : ℕ} → r ≡ (tables_of cells).len p → p < d.p → r ≤ 32
  length-below {p} e l = rw (e, len-inside h p l) (length_most h p l)

abbrev pub RowSmall : Sizes → ℕ → ℕ → ℕ → Type 0
RowSmall d q X a = (q * d.n ≤ 4096) × ((q * d.n + X) * d.t ≤ 132096) × (crossing_row d q X a ≤ 4228096)

module _ (d : Sizes) (q X a : ℕ) (hq : q < d.s) (hX : X < d.n) (ha : a < d.t) where
  -- the row lies within the table
  pub crossing-row-below : crossing_row d q X a + d.t ≤ room d
  crossing-row-below = row_below (d.s * d.n * d.t) d.t ((q * d.n + X) * d.t + a) (index_below (d.s * d.n) d.t (q * d.n + X) a (index_below d.s d.n q X hq hX) ha)

  -- none of the products that lead to the row's place wraps
  pub crossing-row-small : Small d → RowSmall d q X a
  crossing-row-small s =
      let i : q * d.n ≤ 4096 = mul_small q 128 d.n 32 (omega arith) (omega arith) in
      let j : (q * d.n + X) * d.t ≤ 132096 = mul_small (q * d.n + X) 4128 d.t 32 (omega arith) (omega arith) in
      (i, j, mul_small ((q * d.n + X) * d.t + a) 132128 d.t 32 (omega arith) (omega arith))

-- a row that is read
pub row_fits : {d : Sizes} {cells table : List ℕ} {q X a start : ℕ} → Fitted d cells table → q < d.s → X < d.n → a < d.t → start ≡ crossing_row d q X a
    → start + d.t ≤ length table
row_fits {d} {q} {X} {a} u hq hX ha e = omega (arith, crossing-row-below d q X a hq hX ha, u.fits)

-- where the row of (q, X, a) begins, by where the rows of q and those of X begin
pub crossing-split : (d : Sizes) (q X a : ℕ) → crossing_row d q X a ≡ crossing_block d q X + a * d.t
crossing-split d q X a = rw (add-mul ((q * d.n + X) * d.t) a d.t, mul_assoc (q * d.n + X) d.t d.t, add-mul (q * d.n) X (d.t * d.t), mul_assoc q d.n (d.t * d.t))

-- .. and that a row of it lies within the table
pub rows_fit : {d : Sizes} {cells table : List ℕ} {q X : ℕ} (offset : ℕ) → Fitted d cells table → q < d.s → X < d.n → offset + d.t ≤ d.t * d.t
    → crossing_block d q X + offset + d.t ≤ length table
rows_fit {d} {q} {X} offset u hq hX ho =
    let below = row_below (d.s * d.n) (d.t * d.t) (q * d.n + X) (index_below d.s d.n q X hq hX) in
    omega (arith, below, u.fits, mul_assoc (d.s * d.n) d.t d.t, add-mul (q * d.n) X (d.t * d.t), mul_assoc q d.n (d.t * d.t))

-- equal places have equal digits
pub record SameCrossing (q X a z q' X' a' z' : ℕ) : Type 0 where
  pub state : q' ≡ q
  pub nonterminal : X' ≡ X
  pub first : a' ≡ a
  pub next : z' ≡ z

pub crossing-one : (d : Sizes) (q X a z q' X' a' z' : ℕ) → X < d.n → a < d.t → z < d.t → X' < d.n → a' < d.t → z' < d.t
    → crossing_row d q' X' a' + z' ≡ crossing_row d q X a + z → SameCrossing q X a z q' X' a' z'
crossing-one d q X a z q' X' a' z' hX ha hz hX' ha' hz' e =
    let e₁ = index-first d.t ((q' * d.n + X') * d.t + a') ((q * d.n + X) * d.t + a) z' z hz' hz e in
    let e₂ = index-first d.t (q' * d.n + X') (q * d.n + X) a' a ha' ha e₁ in
    record {
      state = index-first d.n q' q X' X hX' hX e₂;
      nonterminal = index-second d.n q' q X' X hX' hX e₂;
      first = index-second d.t (q' * d.n + X') (q * d.n + X) a' a ha' ha e₁;
      next = index-second d.t ((q' * d.n + X') * d.t + a') ((q * d.n + X) * d.t + a) z' z hz' hz e;
    }
