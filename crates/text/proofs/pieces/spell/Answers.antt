-- `text::pieces::spell` meets its contract: digit by digit, from the last. Assumes nothing.
use mathlib.Core.Path.{◌≡◌}
use native.Mathlib.Omega.{arith}
use Rattle.text.specs.DecimalLaws.{spelling-more, spelling-last, spelling-end}
use borrow.Author.Rules.{rules}
use Rattle.text.proofs.pieces.spell.Goals as goal

pub returns-then-rest-lt10 : goal.returns-then-rest-lt10
returns-then-rest-lt10 c =
    (search rules, omega arith, spelling-last c.loop-i.invariant (omega arith) (omega arith) c.if-rest-lt10.true)

pub loop-i-preserved : goal.loop-i-preserved
loop-i-preserved c = spelling-more c.loop-i.invariant (omega arith) (omega arith) c.if-rest-lt10.false

pub returns : goal.returns
returns c =
    let none : c.loop-i.i ≡ 0 = omega arith in
    (c.loop-i.invariant.size, omega arith, rw none at (spelling-end c.loop-i.invariant c.loop-i-test.false))
