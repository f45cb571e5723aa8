-- `layers::opening::flag` meets its contract. Assumes nothing.
use Rattle.layers.proofs.opening.flag.Goals as goal

pub returns-else-opens : goal.returns-else-opens
returns-else-opens c = λ e. record { none = λ hq ha. c.opens.ensures c.if-opens.false }
