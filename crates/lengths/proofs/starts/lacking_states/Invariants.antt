use Rattle.book.specs.Tables.{tables_of}
use Rattle.walk.specs.Scale.{plain}
use Rattle.lengths.specs.Lengths.{LackingOn}
use Rattle.lengths.proofs.starts.lacking_states.Given as goal

abbrev pub invariant-loop-q : goal.invariant-loop-q
invariant-loop-q l = LackingOn plain l.d.t (tables_of l.cells) l.x l.dist l.masks l.q l.flags
