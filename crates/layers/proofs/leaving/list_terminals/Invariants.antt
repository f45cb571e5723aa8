use Rattle.layers.specs.Leaving.{TerminalsListed}
use Rattle.layers.proofs.leaving.list_terminals.Given as goal

abbrev pub invariant-loop-a : goal.invariant-loop-a
invariant-loop-a l = TerminalsListed l.t l.bound l.row l.rows l.from l.a l.terminals l.offsets l.costs l.n
