-- The walks that the search makes layers for: those that may come to a reduction that pops more than they push. Assumes nothing.
use Rattle.std.specs.Prelude.{false, List, ℕ, ◌≤◌}
use Rattle.book.specs.Tables.{Tables}
use Rattle.book.specs.TablesLaws.{InRange}
use Rattle.positions.specs.Position.{Positions, PositionPassed}

-- flags by the number of transitions and the state, 0 only where no such walk stands
pub record Pends (B : Tables) (pending : List ℕ) : Type 0 where
  pub range : InRange B
  pub positions : Positions false B 0 pending

-- a walk of n transitions is wanted where it stands in q if it is flagged, and its cost x is within the bound
pub record Pending (pending : List ℕ) (bound n q x : ℕ) : Type 0 where
  pub within : x ≤ bound
  pub passed : PositionPassed pending n q
