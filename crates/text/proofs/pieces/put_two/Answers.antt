-- `text::pieces::put_two` meets its contract: piece by piece. Assumes nothing.
use native.Mathlib.Omega.{arith}
use Rattle.text.specs.DecimalLaws.{decimal-most}
use Rattle.text.specs.PutLaws.{put_then}
use Rattle.text.specs.TextLaws.{two-words}
use Rattle.text.proofs.pieces.put_two.Goals as goal

pub put_next-counted-requires : goal.put_next-counted-requires
put_next-counted-requires c = omega (arith, decimal-most c.args.n)

pub put_next_word-named-requires : goal.put_next_word-named-requires
put_next_word-named-requires c = omega (arith, decimal-most c.args.n)

pub put_next-last-requires : goal.put_next-last-requires
put_next-last-requires c = omega (arith, decimal-most c.args.n, decimal-most c.args.m)

pub put-requires : goal.put-requires
put-requires c = omega (arith, decimal-most c.args.n, decimal-most c.args.m)

pub returns : goal.returns
returns c =
    record {
      put = rw two-words at (put_then (put_then (put_then (put_then c.put-labelled.ensures c.put_next-counted.ensures) c.put_next_word-named.ensures) c.put_next-last.ensures) c.put.ensures);
      upper_bound = omega (arith, decimal-most c.args.n, decimal-most c.args.m);
    }
