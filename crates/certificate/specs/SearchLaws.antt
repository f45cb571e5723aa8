-- Laws of searches: how the lowest index is found, and that the lowest faults of the conditions tell the verdict. Assumes nothing.
use Rattle.std.specs.Prelude.{Bool, true, false, cond, ◌⊎◌, ◌≡◌, refl, ℕ, zero, suc, ◌≤◌, ◌<◌, min}
use Rattle.std.proofs.lemmas.Bool.{false≢true}
use Rattle.std.proofs.Common.{inl, inr, ⊎_elim, arith, lt-ltb, le-ltb}
use Rattle.std.proofs.Math.Decide.{dec_le, dec_lt, ℕ_discrete}
use Rattle.book.specs.Tables.{Tables}
use Rattle.certificate.specs.Certificate.{Certificate, claim_count, order, Fails, Judged, accepts, faults}
use Rattle.certificate.specs.declared.Condition.{Condition}
use Rattle.certificate.specs.declared.Condition.TheVariants.{Range, Roads, Start, Transitions, Short, Sentences}
use Rattle.certificate.specs.declared.Verdict.{Verdict}
use Rattle.certificate.specs.declared.Verdict.TheVariants.{Accepted, Fault}
use Rattle.certificate.specs.CertificateLaws.{order-one}
use Rattle.roads.specs.Lowest.{Lowest, Among}
use Rattle.certificate.specs.Search.{least_below, Before, found, told}
use Rattle.certificate.specs.IndexLaws.{fails-below}

-- ---- a search
pub lowest-none : {P : ℕ → Type 0} {top : ℕ} → ((j : ℕ) → ¬ P j) → Lowest P top top
lowest-none f = record { below = λ j x. absurd (f j x); attained = inl refl }

-- the lower of two
pub lowest-join : {P Q R : ℕ → Type 0} {top i j : ℕ} → ((k : ℕ) → P k → R k) → ((k : ℕ) → Q k → R k) → ((k : ℕ) → R k → P k ⊎ Q k)
    → Lowest P top i → Lowest Q top j → Lowest R top (min i j)
lowest-join {P} {Q} {R} {top} {i} {j} f g h p q = record {
  below = λ k x. ⊎_elim (λ y. omega (arith, p.below k y)) (λ y. omega (arith, q.below k y)) (h k x);
  attained = go (dec_le i j);
}
  where
    go : Dec (i ≤ j) → (min i j ≡ top) ⊎ R (min i j)
    go (yes l) = let e : min i j ≡ i = omega arith in rw e (⊎_elim inl (λ x. inr (f i x)) p.attained)
    go (no l) = let e : min i j ≡ j = omega arith in rw e (⊎_elim inl (λ x. inr (g j x)) q.attained)

-- the least of several
pub least-below : {P : ℕ → ℕ → Type 0} {f : ℕ → ℕ} (top n : ℕ) → ((j : ℕ) → j < n → Lowest (P j) top (f j)) → Lowest (Among n P) top (least_below top n f)
least-below top zero g = lowest-none (λ i (j, h, x). omega arith)
least-below {P} top (suc n) g = lowest-join {P = Among n P} {Q = P n}
    (λ i (j, h, x). (j, omega arith, x))
    (λ i x. (n, omega arith, x))
    (λ i (j, h, x). go i j h x (ℕ_discrete j n))
    (least-below top n (λ j h. g j (omega arith)))
    (g n (omega arith))
  where
    go : (i j : ℕ) → j < suc n → P j i → Dec (j ≡ n) → Among n P i ⊎ P n i
    go i j h x (yes e) = inr (rw e at x)
    go i j h x (no e) = inl (j, omega arith, x)

-- one candidate, by a test
pub lowest-if : {P : Type 0} (b : Bool) (k top : ℕ) → (b ≡ true → P) → (P → b ≡ true) → Lowest (λ i. (i ≡ k) × P) top (cond b k top)
lowest-if true k top f g = record { below = λ j (e, x). omega arith; attained = inr (refl, f refl) }
lowest-if false k top f g = record { below = λ j (e, x). absurd (false≢true (g x)); attained = inl refl }

-- ---- the verdict: the conditions in turn, where those before hold
module _ {fails : Condition → ℕ → Type 0} (k : Condition) (f : Before fails (order k)) where
  pub judged-fault : {i : ℕ} → fails k i → ((j : ℕ) → fails k j → i ≤ j) → Judged fails (Fault k i)
  judged-fault {i} x low = faults k i x f (λ j l y. omega (arith, low j y))

  pub before-next : ((i : ℕ) → ¬ fails k i) → Before fails (suc (order k))
  before-next none k' i h x = go (ℕ_discrete (order k') (order k))
    where
      go : Dec (order k' ≡ order k) → ⊥
      go (yes e) = none i (rw (order-one k' k e) at x)
      go (no e) = f k' i (omega arith) x

pub judged-accepted : {fails : Condition → ℕ → Type 0} → Before fails 6 → Judged fails Accepted
judged-accepted {fails} f = accepts (λ k i. f k i (below k))
  where
    below : (k : Condition) → order k < 6
    below Range = omega arith
    below Roads = omega arith
    below Start = omega arith
    below Transitions = omega arith
    below Short = omega arith
    below Sentences = omega arith

-- the search for the faults of a condition may rely on those before it
module _ {fails : Condition → ℕ → Type 0} (top : ℕ) (inside : (k : Condition) (i : ℕ) → fails k i → i < top) (low : Condition → ℕ)
    (lowest : (k : Condition) → Before fails (order k) → Lowest (fails k) top (low k)) where
  turn : (k : Condition) (v : Verdict) → Before fails (order k) → (Before fails (suc (order k)) → Judged fails v) → Judged fails (found top k (low k) v)
  turn k v f g = go (dec_lt (low k) top)
    where
      some : low k < top → (low k ≡ top) ⊎ fails k (low k) → Judged fails (Fault k (low k))
      some h (inl e) = absurd (omega arith)
      some h (inr x) = judged-fault k f x (lowest k f).below

      go : Dec (low k < top) → Judged fails (found top k (low k) v)
      go (yes h) = rw (lt-ltb (low k) top h) (some h (lowest k f).attained)
      go (no h) = rw (le-ltb (low k) top (omega arith)) (g (before-next k f (λ i y. omega (arith, (lowest k f).below i y, inside k i y))))

  -- the lowest index at which each condition fails tells the verdict
  pub told-judged : Judged fails (told top low)
  unfolding told
  told-judged =
      turn Range _ (λ k i h x. omega arith)
      (λ f. turn Roads _ f
      (λ f. turn Start _ f
      (λ f. turn Transitions _ f
      (λ f. turn Short _ f
      (λ f. turn Sentences Accepted f
      (λ f. judged-accepted f))))))

pub certificate-judged : (B : Tables) (c : Certificate) (low : Condition → ℕ)
    → ((k : Condition) → Before (Fails B c) (order k) → Lowest (Fails B c k) (claim_count B) (low k))
    → Judged (Fails B c) (told (claim_count B) low)
certificate-judged B c low lowest = told-judged (claim_count B) (λ k i x. fails-below B c k i x) low lowest
