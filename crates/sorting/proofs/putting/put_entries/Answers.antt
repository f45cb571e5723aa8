-- `sorting::putting::put_entries` meets its contract: state by state. Assumes nothing.
use Rattle.sorting.specs.UpToLaws.{put-none, put-fits, put-state}
use Rattle.sorting.proofs.putting.put_entries.Goals as goal

pub loop-s-init : goal.loop-s-init
loop-s-init c = put-none

pub put_entry-at-requires : goal.put_entry-at-requires
put_entry-at-requires c = put-fits c.args.states c.loop-s.invariant c.loop-s-test.true c.requires.states_in_bounds

pub loop-s-preserved : goal.loop-s-preserved
loop-s-preserved c =
    put-state _ _ c.loop-s.invariant c.put_entry-at.ensures.value c.put_entry-at.ensures.out_after
