-- `lines::line::put_sentence` meets its contract: piece by piece. Assumes nothing.
use native.Mathlib.Omega.{arith}
use Rattle.text.specs.DecimalLaws.{decimal-most}
use Rattle.text.specs.PutLaws.{put_then}
use Rattle.lines.proofs.line.put_sentence.Goals as goal

pub put_next-first-requires : goal.put_next-first-requires
put_next-first-requires c = omega (arith, decimal-most c.args.n)

pub put_symbols-second-requires : goal.put_symbols-second-requires
put_symbols-second-requires c = (c.requires.1, omega (arith, decimal-most c.args.n))

pub put-requires : goal.put-requires
put-requires c = omega (arith, decimal-most c.args.n)

pub returns : goal.returns
returns c =
    record {
      put = put_then (put_then c.put_next-first.ensures c.put_symbols-second.ensures.put) c.put.ensures;
      upper_bound = omega (arith, decimal-most c.args.n);
    }
