-- `certificate::sentences::lowest_sentence` meets its contract: no pair before the one at hand has a wrong sentence. Assumes nothing.
use mathlib.Core.Path.{refl, sym, ◌∙◌}
use native.Mathlib.Nat.{add-sub_cancel_left}
use native.Mathlib.Omega.{arith}
use Rattle.certificate.proofs.WrongLaws.{standing-none, standing-long, standing-refused, stood, standing-right, standing-wrong, symbols-sound}
use Rattle.certificate.proofs.sentences.lowest_sentence.Goals as goal
use Rattle.certificate.proofs.sentences.lowest_sentence.Goals.{then-claim-le-LIMIT+in-Ok+else-not-is_right, else-claim-le-LIMIT}

pub loop-k-init : goal.loop-k-init
loop-k-init c = (refl, standing-none c.requires.admitted)

pub returns-in_default : goal.returns-in_default
returns-in_default c =
    absurd (standing-refused c.loop-k.invariant.1 c.loop-k-test.true c.requires.holds.small.terminals c.if-claim-le-LIMIT.true _ (sym c.in_default.ensures))

pub overflow_add-at : goal.overflow_add-at
overflow_add-at c =
    omega (arith, (stood c.loop-k.invariant.1 c.loop-k-test.true c.requires.holds.small.terminals c.if-claim-le-LIMIT.true (sym c.in-Ok.ensures)).symbols.within)

pub slice_bounds-is_right-end : goal.slice_bounds-is_right-end
slice_bounds-is_right-end c =
    omega (arith, (stood c.loop-k.invariant.1 c.loop-k-test.true c.requires.holds.small.terminals c.if-claim-le-LIMIT.true (sym c.in-Ok.ensures)).symbols.within)

pub is_right-requires-clause-sentence_value : goal.is_right-requires-clause-sentence_value
is_right-requires-clause-sentence_value c =
    rw add-sub_cancel_left (symbols-sound (stood c.loop-k.invariant.1 c.loop-k-test.true c.requires.holds.small.terminals c.if-claim-le-LIMIT.true (sym c.in-Ok.ensures)).symbols)

pub returns-then-not-is_right : goal.returns-then-not-is_right
returns-then-not-is_right c =
    standing-wrong c.loop-k.invariant.1 c.loop-k-test.true c.requires.holds.small.terminals c.if-claim-le-LIMIT.true (sym c.in-Ok.ensures) (rw add-sub_cancel_left at (sym c.is_right.ensures.value ∙ c.if-not-is_right.true))

pub loop-k-preserved : goal.loop-k-preserved
loop-k-preserved c =
    elim c.if-claim-le-LIMIT.branch [
      | then-claim-le-LIMIT+in-Ok+else-not-is_right w ↦ (rw w.stack-is (w.is_right.ensures.stack_len_unchanged ∙ c.loop-k.invariant.0), rw w.at-is (standing-right c.loop-k.invariant.1 c.loop-k-test.true c.requires.holds.small.terminals w.if-claim-le-LIMIT.true (sym w.in-Ok.ensures) (rw add-sub_cancel_left at (sym w.is_right.ensures.value ∙ w.if-not-is_right.false))))
      | else-claim-le-LIMIT w ↦ (rw w.stack-is c.loop-k.invariant.0, rw w.at-is (standing-long c.loop-k.invariant.1 c.loop-k-test.true w.if-claim-le-LIMIT.false))
    ]
