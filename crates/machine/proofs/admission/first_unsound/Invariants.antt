use mathlib.Core.Path.{◌≡◌}
use Prim.Native.Nat.{◌+◌, ◌-◌, ◌≤◌}
use lib.ListN.{length, drop}
use Rattle.machine.specs.Run.{sound_prefix}
use Rattle.machine.proofs.admission.first_unsound.Given as goal

abbrev pub invariant-loop-i : goal.invariant-loop-i
invariant-loop-i l = sound_prefix l.t l.sentence ≡ l.i + sound_prefix l.t (drop l.i l.sentence)
