-- `crossings::reduction::lower` meets its contract. Assumes nothing.
use Rattle.crossings.specs.Falling.{kept, stored}
use Rattle.crossings.proofs.reduction.lower.Goals as goal

pub returns-then-v-table : goal.returns-then-v-table
returns-then-v-table c = stored c.if-v-table.true

pub returns : goal.returns
returns c = kept c.if-v-table.false
