-- Definitions for the laws of `proofs/ShiftLaws.antt`. Assumes nothing.
use Rattle.std.specs.Prelude.{List, [], ◌≡◌, ℕ}
use Rattle.book.specs.Tables.{Tables}
use Rattle.book.specs.declared.Action.TheVariants.{Shift}
use Rattle.walk.specs.Walk.{Gets}

-- from the stack, without taking in anything, the machine brings a state on top that shifts x
pub record Ready (B : Tables) (st : List ℕ) (x : ℕ) : Type 0 where
  pub state : ℕ
  pub target : ℕ
  pub action : B.act state x ≡ Shift target
  pub gets : Gets B state x st x []
