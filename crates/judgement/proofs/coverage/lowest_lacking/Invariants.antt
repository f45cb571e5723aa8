use mathlib.Core.Path.{◌≡◌}
use Prim.Native.Nat.{◌-◌}
use Rattle.judgement.specs.Coverage.{state_fails, lacks_in}
use Rattle.judgement.specs.Judgement.{lowest_state}
use Rattle.judgement.proofs.coverage.lowest_lacking.Given as goal

abbrev pub invariant-loop-q : goal.invariant-loop-q
invariant-loop-q l = lowest_state (lacks_in (state_fails l.cells l.dist l.broken l.d.t) l.places) l.d.s 0 ≡ lowest_state (lacks_in (state_fails l.cells l.dist l.broken l.d.t) l.places) (l.d.s - l.q) l.q
