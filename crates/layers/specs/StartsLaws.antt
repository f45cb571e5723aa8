-- Laws of the rows of a state: what is read in them, and how far they reach. Assumes nothing.
use Rattle.std.specs.Prelude.{List, ◌≡◌, ℕ, ◌+◌, ◌≤◌, ◌<◌, length, get_or}
use Rattle.std.proofs.Common.{arith}
use Rattle.book.specs.Action.{action_of}
use Rattle.book.specs.IndexLaws.{index_below}
use Rattle.book.specs.RangeLaws.{actions-few, gotos-few}
use Rattle.book.specs.Tables.{tables_of}
use Rattle.book.specs.TablesLaws.{Holds, action_at, goto_at}
use Rattle.book.proofs.TablesLaws.{no-ranks, act-inside, goto-inside, goto-most}
use Rattle.book.specs.declared.Sizes.{Sizes}
use Rattle.layers.specs.Starts.{action_row, goto_row}

module _ {d : Sizes} {cells : List ℕ} (h : Holds d cells) where
  pub cells-few : length cells ≤ 8453
  cells-few = omega (arith, h.count, no-ranks h, h.small.productions, actions-few d h.small, gotos-few d h.small)

  pub action-read : (q a : ℕ) → q < d.s → a < d.t → (action_row d q + a < length cells) × ((tables_of cells).act q a ≡ action_of (get_or cells (action_row d q + a) 0))
  action-read q a lq la =
      let at : action_at d q a ≡ action_row d q + a = omega arith in
      (omega (arith, index_below d.s d.t q a lq la, h.count), rw (← at) (act-inside h q a lq la))

  -- what is read as a goto is no more than a state + 1
  pub goto-read : (q X : ℕ) → q < d.s → X < d.n → (goto_row d q + X < length cells) × ((tables_of cells).goto q X ≡ get_or cells (goto_row d q + X) 0) × (get_or cells (goto_row d q + X) 0 ≤ d.s)
  goto-read q X lq lX =
      let at : goto_at d q X ≡ goto_row d q + X = omega arith in
      (omega (arith, index_below d.s d.n q X lq lX, h.count), rw (← at) (goto-inside h q X lq lX), rw (← at) (goto-most h q X lq lX))
