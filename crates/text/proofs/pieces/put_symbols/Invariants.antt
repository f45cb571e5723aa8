use Rattle.text.specs.TextLaws.{Spelt}
use Rattle.text.proofs.pieces.put_symbols.Given as goal

abbrev pub invariant-loop-symbol : goal.invariant-loop-symbol
invariant-loop-symbol l = Spelt l.symbol-items l.initial.out l.at l.out l.next l.symbol-index
