-- Action cells. Assumes nothing.
use Rattle.std.specs.Prelude.{cond, ℕ, zero, suc, ◌/◌, ◌%◌, eqb}
use Rattle.book.specs.declared.Action.{Action}

-- 'an action: 0 error, 1 accept, 2 + 2 × s shift to state s, 3 + 2 × p reduce production p', 'read as one of four kinds, shift and reduce with
-- their number'
unfoldable pub action_of : ℕ → Action
action_of zero = Action.Error
action_of (suc zero) = Action.Accept
action_of (suc (suc k)) = cond (eqb (k % 2) 0) (Action.Shift (k / 2)) (Action.Reduce (k / 2))
