-- `joining::join::put_list` meets its contract: the count, then the entries, where both fit. Assumes nothing.
use mathlib.Core.Path.{◌≡◌, ap}
use native.Mathlib.Omega.{arith}
use Prim.Native.Nat.{◌+◌}
use lib.ListN.{length}
use lib.Seq.{length-sets}
use Rattle.number.specs.Number.{written}
use Rattle.joining.proofs.JoinLaws.{pieces-short, count-short, list_put}
use Rattle.pieces.specs.Pieces.{pieces_to, count_to}
use borrow.Author.Rules.{rules}
use Rattle.joining.proofs.join.put_list.Goals as goal

pub returns-in_default : goal.returns-in_default
returns-in_default c =
    let a = c.args in
    let short = c.in_default.ensures in
    rw c.at.ensures (pieces-short (written (count_to a.places.now a.others.now a.states)) (pieces_to a.first.now a.places.now a.second.now a.others.now a.states) a.out.now short)

pub returns-then-left-width : goal.returns-then-left-width
returns-then-left-width c =
    let measured-here : let a = c.args in
    (c.in-Some.left + length (pieces_to a.first.now a.places.now a.second.now a.others.now a.states) ≡ length a.out.now)
    × (c.in-Some.count ≡ count_to a.places.now a.others.now a.states) = c.in-Some.ensures in
    let counted-here : let a = c.args in c.width.result ≡ length (written (count_to a.places.now a.others.now a.states)) = rw measured-here.1 at c.width.ensures in
    let a = c.args in
    rw c.at-then-left-width.ensures (count-short (written (count_to a.places.now a.others.now a.states)) (pieces_to a.first.now a.places.now a.second.now a.others.now a.states) a.out.now c.in-Some.left measured-here.0 (omega (arith, counted-here)))

pub write-start-requires : goal.write-start-requires
write-start-requires c =
    let measured-here : let a = c.args in
    (c.in-Some.left + length (pieces_to a.first.now a.places.now a.second.now a.others.now a.states) ≡ length a.out.now)
    × (c.in-Some.count ≡ count_to a.places.now a.others.now a.states) = c.in-Some.ensures in
    record {
      n_bound = search rules;
      n_in_bounds = omega (arith, c.width.ensures, measured-here.0);
    }

pub put_pieces-requires : goal.put_pieces-requires
put_pieces-requires c =
    let measured-here : let a = c.args in
    (c.in-Some.left + length (pieces_to a.first.now a.places.now a.second.now a.others.now a.states) ≡ length a.out.now)
    × (c.in-Some.count ≡ count_to a.places.now a.others.now a.states) = c.in-Some.ensures in
    let w = c.write-start.ensures in
    record {
      states_bound = search rules;
      states_in_bounds = omega (arith, w.0, ap length w.1, length-sets c.args.out.now 0 (written c.in-Some.count), c.width.ensures, measured-here.0);
    }

pub returns : goal.returns
returns c =
    let measured-here : let a = c.args in
    (c.in-Some.left + length (pieces_to a.first.now a.places.now a.second.now a.others.now a.states) ≡ length a.out.now)
    × (c.in-Some.count ≡ count_to a.places.now a.others.now a.states) = c.in-Some.ensures in
    let counted-here : let a = c.args in c.width.result ≡ length (written (count_to a.places.now a.others.now a.states)) = rw measured-here.1 at c.width.ensures in
    let a = c.args in
    let w = rw measured-here.1 at c.write-start.ensures in
    list_put (written (count_to a.places.now a.others.now a.states)) (pieces_to a.first.now a.places.now a.second.now a.others.now a.states) a.out.now c.in-Some.left measured-here.0 _ _ _ _ (omega (arith, counted-here)) w (c.put_pieces.ensures.value, c.put_pieces.ensures.out_after)
