-- Laws of passes over a table of distances: no turn, one store, one turn more. Assumes nothing.
use Rattle.std.specs.Prelude.{List, ◌⊎◌, ◌≡◌, refl, ℕ, ◌+◌, ◌*◌, ◌≤◌, ◌<◌, max, length, get_or, set}
use Rattle.std.proofs.Common.{inl, inr, sym, ◌∙◌, subst, le_antisymm, le_refl, le_trans, arith, length-set}
use Rattle.std.proofs.Math.Logic.{⊎_map}
use Rattle.std.proofs.Math.Decide.{ℕ_discrete}
use Rattle.std.proofs.lemmas.List.{set-get_or}
use Rattle.book.specs.Tables.{Tables}
use Rattle.walk.specs.Scale.{Scale, unreached}
use Rattle.walk.proofs.CostLaws.{zero-plus, plus_assoc, plus-far-right}
use Rattle.walk.specs.Claims.{Claims, none, OnwardTo, Weighs}
use Rattle.walk.proofs.ClaimsLaws.{claimed-next, claimed-append, claimed-shift, claimed-goto, onward}
use Rattle.walk.specs.Layers.{Sooner, from-shift, from-goto}
use Rattle.walk.specs.Sum.{plus}
use Rattle.layers.specs.Layer.{value_in}
use Rattle.layers.specs.LayerLaws.{value-off}
use Rattle.layers.specs.States.{flag_in, listed_in, Listed}
use Rattle.layers.specs.Step.{Upto}
use Rattle.layers.specs.StepLaws.{step-zero, step-more, step-least, step-listed}
use Rattle.crossings.specs.Falling.{Stored, kept, stored, Pass}
use Rattle.crossings.specs.FallingLaws.{fallen-none, fallen-set, fallen-join, pass-none}
use Rattle.distances.specs.Distances.{distance_in, Bounded}
use Rattle.distances.specs.DistancesLaws.{distance_read, distance-same, distance-other}
use Rattle.distances.specs.Pass.{Merged, Offer, Drawn}

-- ---- entries lowered to those of a layer
pub merged-zero : {σ : Scale} {P : ℕ → ℕ → ℕ → ℕ → Type 0} {l : List ℕ} → length l ≡ 4096 → Merged σ (Upto P 0) 0 l l
merged-zero h = record { size = h; step = step-zero; fallen = fallen-none }

-- one store; a cell that is kept holds the least already
pub merged-store : {σ : Scale} {old : List ℕ} (g j v w : ℕ) {new : List ℕ} {r : ℕ} → g < 128 → j < 32 → length old ≡ 4096 → v ≡ w → Stored (g * 32 + j) v old r new
    → Merged σ (λ q z w'. (q ≡ g) × (z ≡ j) × (w' ≡ w)) r old new
merged-store {σ} {old} g j v w hg hj h e (kept l) = record {
  size = h;
  step = rw (set-get_or old (g * 32 + j) 0) at (step-least {σ = σ} old g j w (get_or old (g * 32 + j) 0) v (get_or old (g * 32 + j) 0) hj (omega arith) (omega arith) refl e);
  fallen = fallen-none;
}
merged-store {old} g j v w hg hj h e (stored l) = record {
  size = length-set old (g * 32 + j) v ∙ h;
  step = step-least old g j w (get_or old (g * 32 + j) 0) v v hj (omega arith) (omega arith) refl e;
  fallen = fallen-set old (g * 32 + j) v (omega arith) l;
}

pub merged-more : {σ : Scale} (P : ℕ → ℕ → ℕ → ℕ → Type 0) (i : ℕ) {n r m : ℕ} {a b c : List ℕ} → m ≡ max n r → Merged σ (Upto P i) n a b → Merged σ (P i) r b c
    → Merged σ (Upto P (i + 1)) m a c
merged-more P i e p q = rw e record {
  size = q.size;
  step = step-more P i p.step q.step;
  fallen = fallen-join p.fallen q.fallen;
}

pub merged-done : {σ : Scale} (P : ℕ → ℕ → ℕ → ℕ → Type 0) {i n k : ℕ} {a b : List ℕ} → i ≤ k → k ≤ i → Merged σ (Upto P i) n a b → Merged σ (Upto P k) n a b
merged-done {σ} P {n} {a} {b} h g p = subst (λ (j : ℕ). Merged σ (Upto P j) n a b) (le_antisymm h g) p

-- by the list of the states that are on
pub merged-listed : {σ : Scale} {s t n : ℕ} (values flags : List ℕ) {a b : List ℕ} → Listed s flags → Merged σ (Upto (λ i. Upto (Offer (value_in σ values flags) (listed_in flags i)) t) (get_or flags 0 0)) n a b
    → Merged σ (Upto (λ q. Upto (Offer (value_in σ values flags) q) t) s) n a b
merged-listed {σ} {s} {t} values flags l m = record {
  size = m.size;
  step = step-listed (listed_in flags) l.below (λ j q z w hj (k, hk, (i, e, ew)) h u. at j k (omega arith) (ℕ_discrete (flag_in flags j) 0)) m.step;
  fallen = m.fallen;
}
  where
    at : (j k : ℕ) → value_in σ values flags j k < unreached σ → Dec (flag_in flags j ≡ 0) → (i : ℕ) × (i < get_or flags 0 0) × (listed_in flags i ≡ j)
    at j k u (yes e) = absurd (omega (arith, value-off σ values flags j k e))
    at j k u (no n) = let f = l.every j n in (f.index, f.before, f.same)

-- ---- distances drawn from older ones
ahead : (σ : Scale) (v w : ℕ) → w ≤ unreached σ → plus σ v w ≡ plus σ (plus σ v 0) w
ahead σ v w h = rw (plus_assoc, zero-plus σ w h) refl

module _ {σ : Scale} {B : Tables} {claim : Claims} where
  pub drawn-same : {l : List ℕ} → Bounded σ B.terminals l → Drawn σ B claim l l
  drawn-same {l} b = record {
    bounded = b;
    fall = λ q a h. le_refl _;
    drawn = λ q a h. inr (onward (distance_in σ l q a) (none h) refl (sym (zero-plus σ (distance_in σ l q a) (b.most q a h))));
  }

  pub drawn-join : {l m k : List ℕ} → Drawn σ B claim l m → Drawn σ B claim m k → Drawn σ B claim l k
  drawn-join {l} {m} {k} f g = record {
    bounded = g.bounded;
    fall = λ q a h. le_trans (g.fall q a h) (f.fall q a h);
    drawn = λ q a h. first q a (g.drawn q a h);
  }
    where
      second : (q a w : ℕ) (x : OnwardTo σ B claim (Weighs (distance_in σ m)) q a w)
          → (distance_in σ m x.state x.next ≡ unreached σ) ⊎ OnwardTo σ B claim (Weighs (distance_in σ l)) x.state x.next (distance_in σ m x.state x.next)
          → (w ≡ unreached σ) ⊎ OnwardTo σ B claim (Weighs (distance_in σ l)) q a w
      second q a w x (inl e) = inl (x.sum ∙ plus-far-right σ _ _ (omega (arith, x.done)))
      second q a w x (inr y) = inr (onward y.after (claimed-append x.walk y.walk) y.done (rw (plus_assoc, ← y.sum, ← x.done) x.sum))

      first : (q a : ℕ) → (distance_in σ k q a ≡ unreached σ) ⊎ OnwardTo σ B claim (Weighs (distance_in σ m)) q a (distance_in σ k q a)
          → (distance_in σ k q a ≡ unreached σ) ⊎ OnwardTo σ B claim (Weighs (distance_in σ l)) q a (distance_in σ k q a)
      first q a (inl e) = inl e
      first q a (inr x) = second q a _ x (f.drawn x.state x.next (claimed-next x.walk))

  -- what one transition makes of distances is drawn from them
  from-sooner : {l : List ℕ} {q a v : ℕ} → Bounded σ B.terminals l → a < B.terminals → Sooner σ B claim (distance_in σ l) q a v → OnwardTo σ B claim (Weighs (distance_in σ l)) q a v
  from-sooner {l} b ha (from-shift {q₁} c e h) = onward (distance_in σ l q₁ c) (claimed-shift e ha (none h)) refl (ahead σ _ _ (b.most q₁ c h))
  from-sooner {l} b ha (from-goto {q₁} X c g h) = onward (distance_in σ l q₁ c) (claimed-goto X g ha (none h)) refl (ahead σ _ _ (b.most q₁ c h))

  drawn-set : {l : List ℕ} (q a v : ℕ) → B.terminals ≤ 32 → q < 128 → a < B.terminals → v < get_or l (q * 32 + a) 0
      → (v ≡ unreached σ) ⊎ Sooner σ B claim (distance_in σ l) q a v → Bounded σ B.terminals l → Drawn σ B claim l (set l (q * 32 + a) v)
  drawn-set {l} q a v small hq ha less x b = record {
    bounded = record {
      size = length-set l (q * 32 + a) v ∙ b.size;
      most = λ q' z h. le_trans (fall q' z h (ℕ_discrete q' q) (ℕ_discrete z a)) (b.most q' z h);
    };
    fall = λ q' z h. fall q' z h (ℕ_discrete q' q) (ℕ_discrete z a);
    drawn = λ q' z h. drawn q' z h (ℕ_discrete q' q) (ℕ_discrete z a);
  }
    where
      same : Drawn σ B claim l l
      same = drawn-same b

      at : distance_in σ (set l (q * 32 + a) v) q a ≡ v
      at = distance-same σ l q a v b.size hq (omega arith)

      other : (q' z : ℕ) → z < B.terminals → (q' ≡ q → z ≡ a → ⊥) → distance_in σ (set l (q * 32 + a) v) q' z ≡ distance_in σ l q' z
      other q' z h away = distance-other σ l q a v q' z (omega arith) (omega arith) away

      fall : (q' z : ℕ) → z < B.terminals → Dec (q' ≡ q) → Dec (z ≡ a) → distance_in σ (set l (q * 32 + a) v) q' z ≤ distance_in σ l q' z
      fall q' z h (yes i) (yes j) = rw (i, j, at) (omega (arith, distance_read σ l q a hq))
      fall q' z h (yes i) (no j) = rw (other q' z h (λ e f. j f)) (le_refl _)
      fall q' z h (no i) j = rw (other q' z h (λ e f. i e)) (le_refl _)

      drawn : (q' z : ℕ) → z < B.terminals → Dec (q' ≡ q) → Dec (z ≡ a)
          → (distance_in σ (set l (q * 32 + a) v) q' z ≡ unreached σ) ⊎ OnwardTo σ B claim (Weighs (distance_in σ l)) q' z (distance_in σ (set l (q * 32 + a) v) q' z)
      drawn q' z h (yes i) (yes j) = rw (i, j, at) (⊎_map (λ e. e) (λ s. from-sooner b ha s) x)
      drawn q' z h (yes i) (no j) = rw (other q' z h (λ e f. j f)) (same.drawn q' z h)
      drawn q' z h (no i) j = rw (other q' z h (λ e f. i e)) (same.drawn q' z h)

  -- ---- passes over them
  pub distance-pass-idle : {D : List ℕ → Type 0} {l : List ℕ} → Bounded σ B.terminals l → D l → Pass (Drawn σ B claim) D 0 l l
  distance-pass-idle b x = pass-none (drawn-same b) x

  pub pass-store : {D : List ℕ → Type 0} {old : List ℕ} (q a v : ℕ) {new : List ℕ} {r : ℕ} → B.terminals ≤ 32 → q < 128 → a < B.terminals
      → (v ≡ unreached σ) ⊎ Sooner σ B claim (distance_in σ old) q a v → Bounded σ B.terminals old → (distance_in σ old q a ≤ v → D old)
      → Stored (q * 32 + a) v old r new → Pass (Drawn σ B claim) D r old new
  pass-store {old} q a v small hq ha x b f (kept l) = distance-pass-idle b (f (omega (arith, distance_read σ old q a hq)))
  pass-store {old} q a v small hq ha x b f (stored l) = record {
    keeps = drawn-set q a v small hq ha l x b;
    fallen = fallen-set old (q * 32 + a) v (omega (arith, b.size)) l;
    done = λ e. absurd (omega (arith, e));
  }
