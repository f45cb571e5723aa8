-- `layers::leaving::list_terminal` meets its contract. Assumes nothing.
use native.Mathlib.Omega.{arith}
use mathlib.Core.Path.{refl}
use Rattle.layers.specs.LeavingLaws.{terminals-more}
use Rattle.layers.proofs.leaving.list_terminal.Goals as goal

pub returns : goal.returns
returns c =
    terminals-more c.requires.terminals_listed (omega (arith, c.requires.t_bound)) refl c.if-v-bound.false c.if-rows-row-eq0.false
