use Rattle.maps.specs.RowsLaws.{Rowed}
use Rattle.maps.proofs.rows.copy_rows.Given as goal

abbrev pub invariant-loop-q : goal.invariant-loop-q
invariant-loop-q l = Rowed l.from l.t l.initial.to l.to l.q l.at
