use Rattle.number.specs.Number.{number_at}
use Rattle.book.specs.RowLaws.{Turns}
use Rattle.lists.specs.Entry.{symbol_fault}
use Rattle.lists.proofs.entries.symbol_row.Given as goal

abbrev pub invariant-loop : goal.invariant-loop
invariant-loop l = Turns (number_at l.list) (symbol_fault l.t) l.len l.fn.start l.counter l.at
