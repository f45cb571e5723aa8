-- Definitions for the laws of two lists that are joined: the bytes that are put are those of the joined list. Assumes nothing.
use mathlib.Core.List.{List}
use Prim.Native.Nat.{ℕ}
use Rattle.lists.specs.List.{list_of}
use Rattle.lists.specs.declared.Rest.{Rest}
use Rattle.course.specs.AcceptedLaws.{ListAccepted}

-- ---- lists that were accepted
pub record BothAccepted (t : ℕ) (first : List ℕ) (rest : Rest) (second : List ℕ) (other : Rest) : Type 0 where
  pub one : ListAccepted first (list_of t first) rest
  pub two : ListAccepted second (list_of t second) other
