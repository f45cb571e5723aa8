-- `sentences::pairs::put_pairs` meets its contract: one pair after the other. Assumes nothing.
use Rattle.layers.specs.Layer.{entry_in}
use Rattle.sentences.proofs.PartsLaws.{pair-at, pairs-none, pairs-more}
use mathlib.Core.Path.{◌∙◌}
use native.Mathlib.Omega.{arith}
use borrow.Author.Rules.{rules}
use Rattle.sentences.proofs.pairs.put_pairs.Goals as goal

pub loop-i-init : goal.loop-i-init
loop-i-init c = (search rules, pairs-none)

pub put_pair-at-requires : goal.put_pair-at-requires
unfolding entry_in
put_pair-at-requires c =
    let p = c.requires in
    let at = pair-at c.requires.holds.small c.loop-i-test.true in
    let inv = c.loop-i.invariant in
    record {
      holds = p.holds;
      crossing_table = p.crossing_table;
      arranged = p.arranged;
      s_lt_s = (at.state, at.terminal, omega (arith, inv.0), omega (arith, c.loop-i-test.true, p.t_in_bounds.1, inv.1.near, inv.1.bytes-size));
      exact = p.cost_table.exact _ _ at.state at.terminal;
    }

pub loop-i-preserved : goal.loop-i-preserved
loop-i-preserved c =
    let call = c.put_pair-at in
    let inv = c.loop-i.invariant in
    (call.auto.sentence ∙ inv.0, pairs-more inv.1 call.auto.bytes call.ensures.pair_put call.ensures.upper_bound)
