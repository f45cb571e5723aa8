-- `lines::line::put_pair` meets its contract: the right answer, piece by piece. Assumes nothing.
use mathlib.Core.Bool.{Bool, not}
use mathlib.Core.Path.{ap}
use native.Mathlib.Omega.{arith}
use Rattle.book.specs.Tables.{tables_of}
use Rattle.text.specs.DecimalLaws.{decimal-most}
use Rattle.text.specs.PutLaws.{put_then}
use Rattle.lines.proofs.LineLaws.{answered-fits, answered-line}
use Rattle.lines.proofs.line.put_pair.Goals as goal

pub put_number-first-requires : goal.put_number-first-requires
put_number-first-requires c = omega (arith, decimal-most c.args.s)

pub put_next-second-requires : goal.put_next-second-requires
put_next-second-requires c = omega (arith, decimal-most c.args.s, decimal-most c.args.z)

pub put_found-requires : goal.put_found-requires
put_found-requires c =
    let a = c.args in
    record {
      fitting = answered-fits (not c.is_error-breaks.result) (tables_of a.cells.now) a.s a.z c.answer-found.ensures;
      at_in_bounds = omega (arith, decimal-most a.s, decimal-most a.z);
    }

pub returns : goal.returns
returns c =
    let a = c.args in
    let found = c.put_found.ensures in
    record {
      pair_listed = answered-line (not c.is_error-breaks.result) (tables_of a.cells.now) a.s a.z (ap (λ (b : Bool). not b) c.is_error-breaks.ensures) c.answer-found.ensures (put_then (put_then c.put_number-first.ensures c.put_next-second.ensures) found.put);
      upper_bound = omega (arith, decimal-most a.s, decimal-most a.z);
    }
