use mathlib.Core.Path.{◌≡◌}
use Rattle.approach.specs.Shortest.{least_over}
use Rattle.approach.proofs.shortest.over_start.Given as goal

abbrev pub invariant-loop-m : goal.invariant-loop-m
invariant-loop-m l = l.r ≡ least_over l.togo l.due l.m l.a
