-- `waiting::events::waiting_at` meets its contract. Assumes nothing.
use native.Mathlib.Omega.{arith}
use mathlib.Core.Logic.{inl, inr}
use mathlib.Core.Path.{◌≡◌, sym}
use Prim.Native.Nat.{◌+◌, ◌*◌, ◌/◌, ◌%◌}
use Rattle.walk.specs.Scale.{plain}
use Rattle.waiting.specs.EventLaws.{row-dark, row_read}
use Rattle.waiting.proofs.events.waiting_at.Goals as goal

pub returns-then-events-at-eq0 : goal.returns-then-events-at-eq0
returns-then-events-at-eq0 c =
    sym (row-dark plain c.args.events.now c.args.at (c.args.i / 32) (omega (arith, c.requires.1)) (inl c.if-events-at-eq0.true) (c.args.i % 32))

pub returns-then-events-at-eq0-2 : goal.returns-then-events-at-eq0-2
returns-then-events-at-eq0-2 c =
    sym (row-dark plain c.args.events.now c.args.at (c.args.i / 32) (omega (arith, c.requires.1)) (inr c.if-events-at-eq0-2.true) (c.args.i % 32))

pub returns : goal.returns
returns c =
    let cell : c.args.at * 1024 + c.args.i ≡ (c.args.at * 32 + c.args.i / 32) * 32 + c.args.i % 32 = omega arith in
    rw cell (sym (row_read plain c.args.events.now c.args.at (c.args.i / 32) (omega (arith, c.requires.1)) c.if-events-at-eq0.false c.if-events-at-eq0-2.false (c.args.i % 32)))
