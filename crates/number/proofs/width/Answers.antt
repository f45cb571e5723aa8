-- `number::width` meets its contract. Assumes nothing.
use mathlib.Core.Path.{ap, sym}
use lib.ListN.{length}
use Rattle.number.specs.NumberLaws.{written_one, written-two, written-long}
use Rattle.number.proofs.width.Goals as goal

pub returns-then-n-lt128 : goal.returns-then-n-lt128
returns-then-n-lt128 c = ap length (sym (written_one _ c.if-n-lt128.true))

pub returns-then-n-lt16384 : goal.returns-then-n-lt16384
returns-then-n-lt16384 c = ap length (sym (written-two _ c.if-n-lt128.false c.if-n-lt16384.true))

pub returns : goal.returns
returns c = sym (written-long _ c.if-n-lt16384.false)
