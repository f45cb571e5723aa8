-- `number::write` meets its contract: in each branch the number is written in one, two or three bytes. Assumes nothing.
use mathlib.Core.Path.{ap}
use native.Mathlib.Omega.{arith}
use native.Mathlib.Numerals.{add-one, add-two}
use lib.ListN.{length, length-set}
use Rattle.number.specs.NumberLaws.{written-some, written_one, written-two, written-three}
use borrow.Author.Rules.{rules}
use Rattle.number.proofs.write.Goals as goal

pub bounds-bytes-at : goal.bounds-bytes-at
bounds-bytes-at c = omega (arith, written-some c.args.n)

pub returns-then-n-lt128 : goal.returns-then-n-lt128
returns-then-n-lt128 c =
    let e = written_one _ c.if-n-lt128.true in (omega (arith, ap length e), rw e)

pub bounds-bytes-at-2 : goal.bounds-bytes-at-2
bounds-bytes-at-2 c = omega (arith, written-some c.args.n)

pub bounds-bytes-at-then-n-lt16384 : goal.bounds-bytes-at-then-n-lt16384
bounds-bytes-at-then-n-lt16384 c =
    let e = written-two _ c.if-n-lt128.false c.if-n-lt16384.true in simp length-set (omega (arith, ap length e))

pub returns-then-n-lt16384 : goal.returns-then-n-lt16384
returns-then-n-lt16384 c =
    let e = written-two _ c.if-n-lt128.false c.if-n-lt16384.true in (omega (arith, ap length e), rw (e, add-one))

pub bounds-bytes-at-3 : goal.bounds-bytes-at-3
bounds-bytes-at-3 c =
    let e = written-three _ c.if-n-lt16384.false (search rules) in simp length-set (omega (arith, ap length e))

pub bounds-bytes-at-4 : goal.bounds-bytes-at-4
bounds-bytes-at-4 c =
    let e = written-three _ c.if-n-lt16384.false (search rules) in simp length-set (omega (arith, ap length e))

pub returns : goal.returns
returns c =
    let e = written-three _ c.if-n-lt16384.false (search rules) in (omega (arith, ap length e), rw (e, add-one, add-two))
