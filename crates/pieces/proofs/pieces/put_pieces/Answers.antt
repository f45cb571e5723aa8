-- `pieces::pieces::put_pieces` meets its contract: state by state. Assumes nothing.
use Rattle.sorting.specs.UpToLaws.{put-none, put-fits, put-state}
use Rattle.pieces.proofs.pieces.put_pieces.Goals as goal

pub loop-s-init : goal.loop-s-init
loop-s-init c = put-none

pub put_piece-at-requires : goal.put_piece-at-requires
put_piece-at-requires c =
    put-fits c.args.states c.loop-s.invariant c.loop-s-test.true c.requires.states_in_bounds

pub loop-s-preserved : goal.loop-s-preserved
loop-s-preserved c =
    put-state _ _ c.loop-s.invariant c.put_piece-at.ensures.value c.put_piece-at.ensures.out_after
