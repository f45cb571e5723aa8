-- `roads::pair::lowest_pair` meets its contract. Assumes nothing.
use Rattle.roads.specs.PairLaws.{pairs-exceeded}
use Rattle.roads.proofs.pair.lowest_pair.Goals as goal

pub returns : goal.returns
returns c =
    let p = c.requires in
    pairs-exceeded p.usable.fitted.holds p.pairs_len.0 c.as_layer.ensures c.all_on.ensures p.pairs_len.1 c.lengthen.ensures.lengthened c.first_over.ensures
