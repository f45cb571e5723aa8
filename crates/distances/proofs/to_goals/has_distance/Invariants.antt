use mathlib.Core.Path.{◌≡◌}
use Prim.Native.Nat.{ℕ, ◌<◌}
use Rattle.walk.specs.Scale.{plain, unreached}
use Rattle.distances.specs.Distances.{distance_in}
use Rattle.distances.proofs.to_goals.has_distance.Given as goal

abbrev pub invariant-loop-z : goal.invariant-loop-z
invariant-loop-z l = (j : ℕ) → j < l.z → distance_in plain l.dist l.q j ≡ unreached plain
