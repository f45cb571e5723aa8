-- `sets::contains` meets its contract. Assumes nothing.
use Rattle.sets.specs.SetLaws.{or-member}
use Rattle.sets.proofs.contains.Goals as goal

pub returns : goal.returns
returns c = rw c.insert.ensures (or-member c.args.set c.args.z)
