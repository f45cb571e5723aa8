-- `sentences::pairs::put_sentence` meets its contract: the number, then the symbols. Assumes nothing.
use Rattle.number.specs.Number.{written}
use Rattle.number.specs.NumberLaws.{written-few}
use Rattle.text.specs.PutLaws.{put_then}
use lib.Seq.{length-take-le}
use native.Mathlib.Omega.{arith}
use Rattle.sentences.proofs.pairs.put_sentence.Goals as goal

pub write-next-requires : goal.write-next-requires
write-next-requires c =
    let p = c.requires in
    record {
      n_bound = omega (arith, p.0);
      n_in_bounds = omega (arith, p.2, written-few c.args.n (omega (arith, p.0)));
    }

pub put-requires : goal.put-requires
put-requires c =
    let p = c.requires in
    let symbols = length-take-le c.args.n c.args.sentence.now p.1 in
    omega (arith, symbols, p.0, p.2, written-few c.args.n (omega (arith, p.0)), c.write-next.ensures.0, c.write-next.auto)

pub returns : goal.returns
returns c =
    let p = c.requires in
    let symbols = length-take-le c.args.n c.args.sentence.now p.1 in
    let count = c.write-next.ensures in
    record {
      put = put_then {xs = written c.args.n} (record { stored = count.1; after = count.0 }) c.put.ensures;
      upper_bound = omega (arith, symbols, p.0, written-few c.args.n (omega (arith, p.0)), count.0, c.put.ensures.after);
    }
