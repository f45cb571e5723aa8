-- `search::descend::descend` meets its contract. Assumes nothing.
use native.Mathlib.Omega.{arith}
use mathlib.Core.Path.{refl}
use Rattle.search.specs.SearchLaws.{descent-more, descent-hit, descent-done}
use Rattle.search.proofs.descend.descend.Goals as goal

pub returns-in-Some-clause-searched_below : goal.returns-in-Some-clause-searched_below
returns-in-Some-clause-searched_below c =
    let f = c.settle-hit.ensures in
    λ a t. descent-hit (c.loop-h.invariant.1 a t) (omega (arith, c.loop-h-test.true)) refl refl c.in-Some.is f.depth_settled

pub loop-h-preserved : goal.loop-h-preserved
loop-h-preserved c =
    let f = c.settle-hit.ensures in (f.search_room_2, λ a t. descent-more (c.loop-h.invariant.1 a t) (omega (arith, c.loop-h-test.true)) refl refl c.in_default.is f.depth_settled)

pub returns-clause-searched_below : goal.returns-clause-searched_below
returns-clause-searched_below c =
    λ a t. descent-done (c.loop-h.invariant.1 a t) (omega (arith, c.requires.in_bounds.1)) (omega (arith, c.loop-h-test.false))
