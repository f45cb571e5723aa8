use Rattle.text.specs.DecimalLaws.{Spelling}
use Rattle.text.proofs.pieces.spell.Given as goal

abbrev pub invariant-loop-i : goal.invariant-loop-i
invariant-loop-i l = Spelling l.n l.text l.i l.rest
