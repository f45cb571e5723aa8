-- `lengths::ahead::ahead` meets its contract. Assumes nothing.
use Rattle.lengths.specs.AheadLaws.{masks-last}
use Rattle.lengths.proofs.ahead.ahead.Goals as goal

pub loop-m-init : goal.loop-m-init
loop-m-init c =
    let l = masks-last c.requires c.longest_of_all-m.ensures in (l, l)
