use Prim.Native.Nat.{◌≤◌}
use Rattle.book.specs.Tables.{tables_of}
use Rattle.layers.specs.Crossing.{claim_in}
use Rattle.advance.specs.Round.{Round}
use Rattle.advance.proofs.distance.round.Given as goal

abbrev pub invariant-loop-q : goal.invariant-loop-q
invariant-loop-q l = (l.n ≤ l.q) × Round (tables_of l.cells) (claim_in l.d l.table) l.a l.m l.q l.n l.to
