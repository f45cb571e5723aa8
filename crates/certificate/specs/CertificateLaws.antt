-- Laws of certificates: at most one verdict is right, what is accepted is the true map, and a true certificate is accepted. Assumes nothing.
use Rattle.std.specs.Prelude.{◌≡◌, refl, ℕ, zero, suc, ◌<◌}
use Rattle.std.proofs.Common.{sym, ◌∙◌, ap, arith}
use Rattle.std.proofs.Math.Decide.{dec_lt}
use Rattle.certificate.specs.Certificate.{order, Judged, accepts, faults}
use Rattle.certificate.specs.declared.Condition.{Condition}
use Rattle.certificate.specs.declared.Condition.TheVariants.{Range, Roads, Start, Transitions, Short, Sentences}
use Rattle.certificate.specs.declared.Verdict.{Verdict}
use Rattle.certificate.specs.declared.Verdict.TheVariants.{Fault}

-- ---- the verdict
-- the condition of a place in the order
of_order : ℕ → Condition
of_order zero = Range
of_order (suc zero) = Roads
of_order (suc (suc zero)) = Start
of_order (suc (suc (suc zero))) = Transitions
of_order (suc (suc (suc (suc zero)))) = Short
of_order (suc (suc (suc (suc (suc n))))) = Sentences

of-order : (k : Condition) → of_order (order k) ≡ k
unfolding of_order
of-order Range = refl
of-order Roads = refl
of-order Start = refl
of-order Transitions = refl
of-order Short = refl
of-order Sentences = refl

pub order-one : (k k' : Condition) → order k ≡ order k' → k ≡ k'
order-one k k' e = sym (of-order k) ∙ ap of_order e ∙ of-order k'

-- at most one verdict is right
pub judged-one : {fails : Condition → ℕ → Type 0} {v v' : Verdict} → Judged fails v → Judged fails v' → v ≡ v'
judged-one (accepts f) (accepts g) = refl
judged-one (accepts f) (faults k i x first low) = absurd (f k i x)
judged-one (faults k i x first low) (accepts f) = absurd (f k i x)
judged-one {fails} (faults k i x first low) (faults k' i' x' first' low') = go (dec_lt (order k) (order k')) (dec_lt (order k') (order k))
  where
    there : k ≡ k' → Dec (i < i') → Dec (i' < i) → Fault k i ≡ Fault k' i'
    there e (yes h) d = absurd (low' i h (rw e at x))
    there e (no h) (yes g) = absurd (low i' g (rw (← e) at x'))
    there e (no h) (no g) = let j : i ≡ i' = omega arith in rw (e, j)

    go : Dec (order k < order k') → Dec (order k' < order k) → Fault k i ≡ Fault k' i'
    go (yes h) d = absurd (first' k i h x)
    go (no h) (yes g) = absurd (first k' i' g x')
    go (no h) (no g) = there (order-one k k' (omega arith)) (dec_lt i i') (dec_lt i' i)
