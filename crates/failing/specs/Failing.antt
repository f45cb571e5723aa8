-- Which pairs fail. Assumes nothing.
use Rattle.std.specs.Prelude.{Bool, true, false, List, ◌↔◌, ◌≡◌, ℕ, ◌<◌}
use Rattle.book.specs.{Tables.Tables, declared.Action.Action}
use Rattle.machine.specs.Machine.{Reaches}
use Rattle.walk.specs.Breaks.{Breaks}

abbrev pub is_error : Action → Bool
is_error Action.Error = true
is_error Action.Accept = false
is_error (Action.Shift s) = false
is_error (Action.Reduce p) = false

-- a sequence fails at a pair: it reaches it, and its 'action is error'; or, by request 5, it 'brings the machine there with a stack on which the
-- reduction breaks', and so 'it is a failing pair from now on'
pub data FailsAt (B : Tables) (s z : ℕ) (w : List ℕ) : Type 0 where
  errs : Reaches B w z s → B.act s z ≡ Action.Error → FailsAt B s z w
  breaks : Breaks B w z s → FailsAt B s z w

-- a failing pair: a sequence of any length, 'long or not', fails there, without limits
pub record FailingPair (B : Tables) (s z : ℕ) : Type 0 where
  pub terminal : z < B.terminals
  pub word : List ℕ
  pub fails : FailsAt B s z word

-- a test is true exactly where something holds, so that two tests that decide the same have the same value
abbrev pub Decides : Bool → Type 0 → Type 0
Decides test Holds = (test ≡ true) ↔ Holds
