-- Laws of layers and distances: what a table has to satisfy, one transition at a time, to hold the least claimed costs. Assumes nothing.
use Rattle.std.specs.Prelude.{◌⊎◌, ◌≡◌, refl, ℕ, zero, suc, ◌≤◌, ◌<◌}
use Rattle.std.proofs.Common.{inl, inr, ⊎_elim, sym, subst, le_trans, le_refl, arith}
use Rattle.std.proofs.Math.Decide.{dec_lt}
use Rattle.book.specs.Tables.{Tables}
use Rattle.book.specs.TablesLaws.{InRange}
use Rattle.walk.specs.Walk.{Walk}
use Rattle.walk.specs.Scale.{Scale, long, unreached}
use Rattle.walk.specs.Cost.{Attained}
use Rattle.walk.proofs.CostLaws.{plus-mono, plus_assoc, plus-bounded, zero-plus, plus-far-left, cut-within, cut-beyond, plus-cut}
use Rattle.walk.specs.Claims.{Claims, Claimed, none, shifting, crossing, Witnessed, Least, LeastWhere, Arrival, OnwardTo, Weighs}
use Rattle.walk.specs.ClaimsLaws.{Start, nowhere, shift-first, goto-first}
use Rattle.walk.proofs.ClaimsLaws.{attained-shift, attained-cross, claimed-next, claimed-bounded, claimed-terminal, claimed-start}
use Rattle.walk.specs.Layers.{Longer, add-shift, add-goto, from-shift, from-goto, Layer, LayerWhere, LayerWithin, cut_at, Leads, by-shift, by-goto, Hereditary, FromStart, ToGoal}
use Rattle.walk.specs.Sum.{shift_cost, plus, cut}

module _ {σ : Scale} {B : Tables} {claim : Claims} where
  -- the layer of no transitions
  pub layer-here : {q a : ℕ} → a < B.terminals → Least σ (λ v. Claimed σ B claim q a v a 0 q) 0
  layer-here h = record { below = λ x c. omega arith; attained = inr (none h) }

  pub layer-elsewhere : {q a q' z : ℕ} → (q ≡ q' → a ≡ z → ⊥) → Least σ (λ v. Claimed σ B claim q a v z 0 q') (unreached σ)
  layer-elsewhere f = record { below = λ x c. absurd (away f c); attained = inl refl }
    where
      away : {q a v q' z : ℕ} → (q ≡ q' → a ≡ z → ⊥) → ¬ Claimed σ B claim q a v z 0 q'
      away f (none h) = f refl refl

  -- one more transition, as far as C says
  pub where-longer : {q a n q' z d : ℕ} {C : ℕ → ℕ → ℕ → Type 0} {L : ℕ → ℕ → ℕ} → Hereditary σ B C → LayerWhere σ B claim C q a n L
      → ((x : ℕ) → C (suc n) q' x → (y : ℕ) → Longer σ B claim L q' z y → d ≤ y) → (d ≡ unreached σ) ⊎ Longer σ B claim L q' z d
      → LeastWhere σ (C (suc n) q') (λ v. Claimed σ B claim q a v z (suc n) q') d
  where-longer {q} {a} {n} {q'} {z} {d} {C} {L} k l m o = record { below = λ x c i. low c i (m x i); attained = ⊎_elim inl (λ x. up x) o }
    where
      nearer : {v b q₁ q₂ : ℕ} (w : ℕ) → Claimed σ B claim q a v b n q₁ → Leads B q₁ q₂ → C (suc n) q₂ (plus σ v w) → L q₁ b ≤ v
      nearer {v} {b} {q₁} w c e i = (l q₁ b (claimed-next c)).below v c (k.before v w (claimed-bounded c) e i)

      low : {x d q' z : ℕ} → Claimed σ B claim q a x z (suc n) q' → C (suc n) q' x → ((y : ℕ) → Longer σ B claim L q' z y → d ≤ y) → d ≤ x
      low (shifting {t} z c e h) i m = le_trans (m _ (add-shift z (claimed-next c) e h)) (plus-mono σ (nearer (shift_cost σ t) c (by-shift e) i) (le_refl _))
      low (crossing {b} {q₁} X z c g h) i m = le_trans (m _ (add-goto X b z (claimed-next c) g h)) (plus-mono σ (nearer (claim q₁ X b z) c (by-goto g) i) (le_refl _))

      up : {q' z v : ℕ} → Longer σ B claim L q' z v → (v ≡ unreached σ) ⊎ Claimed σ B claim q a v z (suc n) q'
      up (add-shift {q₁} {t} z k e h) = ⊎_elim (λ i. inl (plus-far-left σ _ _ (omega arith))) (λ c. inr (shifting z c e h)) (l q₁ t k).attained
      up (add-goto {q₁} X b z k g h) = ⊎_elim (λ i. inl (plus-far-left σ _ _ (omega arith))) (λ c. inr (crossing X z c g h)) (l q₁ b k).attained

  -- where costs above the bound may be left out
  pub within-cut : {q a n bound : ℕ} {L : ℕ → ℕ → ℕ} → LayerWithin σ B claim bound q a n L → LayerWithin σ B claim bound q a n (cut_at σ bound L)
  within-cut {q} {a} {n} {bound} {L} l q' z h = go (dec_lt bound (L q' z))
    where
      go : Dec (bound < L q' z) → LeastWhere σ (λ x. x ≤ bound) (λ v. Claimed σ B claim q a v z n q') (cut σ bound (L q' z))
      go (yes k) = rw (cut-beyond σ bound (L q' z) k) (record { below = λ x c i. absurd (omega (arith, (l q' z h).below x c i)); attained = inl refl })
      go (no k) = rw (cut-within σ bound (L q' z) (omega arith)) (l q' z h)

  -- costs that agree in the states and terminals of the book lead to the same
  pub longer-as : {K L : ℕ → ℕ → ℕ} {q z v : ℕ} → InRange B → ((q' b : ℕ) → q' < B.states → b < B.terminals → L q' b ≡ K q' b) → Longer σ B claim L q z v → Longer σ B claim K q z v
  longer-as i e (add-shift {q₁} {t} {q₂} z k a h) = rw (e q₁ t (i.shifts q₁ t q₂ a).0 k) (add-shift z k a h)
  longer-as i e (add-goto {q₁} {q₂} X b z k g h) = rw (e q₁ b (i.gotos q₁ X q₂ g).0 k) (add-goto X b z k g h)

  -- a whole layer is one as far as anything says
  pub layer-where : {q a n : ℕ} {L : ℕ → ℕ → ℕ} (C : ℕ → ℕ → ℕ → Type 0) → Layer σ B claim q a n L → LayerWhere σ B claim C q a n L
  layer-where C l q' z h = record { below = λ x c i. (l q' z h).below x c; attained = (l q' z h).attained }

  -- a cut at long leaves out nothing
  pub longer-whole : {C : ℕ → Type 0} {L : ℕ → ℕ → ℕ} {q z v : ℕ} → LeastWhere σ C (Longer σ B claim (cut_at σ (long σ) L) q z) v → LeastWhere σ C (Longer σ B claim L q z) v
  longer-whole {L} m = record { below = λ x l i. m.below x (into l) i; attained = ⊎_elim inl (λ l. inr (out l)) m.attained }
    where
      into : {q z x : ℕ} → Longer σ B claim L q z x → Longer σ B claim (cut_at σ (long σ) L) q z x
      into (add-shift {q₁} {t} z k e h) = subst (Longer σ B claim (cut_at σ (long σ) L) _ z) (plus-cut σ (L q₁ t) (shift_cost σ t)) (add-shift z k e h)
      into (add-goto {q₁} X b z k g h) = subst (Longer σ B claim (cut_at σ (long σ) L) _ z) (plus-cut σ (L q₁ b) (claim q₁ X b z)) (add-goto X b z k g h)

      out : {q z x : ℕ} → Longer σ B claim (cut_at σ (long σ) L) q z x → Longer σ B claim L q z x
      out (add-shift {q₁} {t} z k e h) = subst (Longer σ B claim L _ z) (sym (plus-cut σ (L q₁ t) (shift_cost σ t))) (add-shift z k e h)
      out (add-goto {q₁} X b z k g h) = subst (Longer σ B claim L _ z) (sym (plus-cut σ (L q₁ b) (claim q₁ X b z))) (add-goto X b z k g h)

  -- the same for walks alone, while claims are still being lowered
  pub walk-longer : {q a n q' z : ℕ} {L : ℕ → ℕ → ℕ} {v : ℕ} → Witnessed σ B claim → ((q₁ b : ℕ) → b < B.terminals → Attained σ (λ w. Walk B q a w b n q₁) (L q₁ b))
      → Longer σ B claim L q' z v → Attained σ (λ w. Walk B q a w z (suc n) q') v
  walk-longer k l (add-shift {q₁} {t} z i e h) = attained-shift σ z (l q₁ t i) e
  walk-longer k l (add-goto {q₁} X b z i g h) = attained-cross σ (l q₁ b i) (k.witness q₁ X b z i h g) g

  -- distances from the start: what a transition makes of attained distances is attained ..
  pub arrival-longer : {D : ℕ → ℕ → ℕ} {q z v : ℕ} → ((q z : ℕ) → z < B.terminals → (D q z ≡ unreached σ) ⊎ Arrival σ B claim q z (D q z))
      → Longer σ B claim D q z v → (v ≡ unreached σ) ⊎ Arrival σ B claim q z v
  arrival-longer f (add-shift {q₁} {t} z k e h) = ⊎_elim (λ i. inl (plus-far-left σ _ _ (omega arith))) (λ (a, n, c). inr (a, suc n, shifting z c e h)) (f q₁ t k)
  arrival-longer f (add-goto {q₁} X b z k g h) = ⊎_elim (λ i. inl (plus-far-left σ _ _ (omega arith))) (λ (a, n, c). inr (a, suc n, crossing X z c g h)) (f q₁ b k)

  -- .. and where nothing is left to lower they are the least
  module _ {D : ℕ → ℕ → ℕ} (f : FromStart σ B claim D) where
    start-below : {q a v z n s : ℕ} → q ≡ 0 → Claimed σ B claim q a v z n s → D s z ≤ v
    start-below {z} i (none h) = rw i (f.start z h)
    start-below i (shifting z c e h) = le_trans (f.closed _ _ _ (add-shift z (claimed-next c) e h)) (plus-mono σ (start-below i c) (le_refl _))
    start-below i (crossing {b} X z c g h) = le_trans (f.closed _ _ _ (add-goto X b z (claimed-next c) g h)) (plus-mono σ (start-below i c) (le_refl _))

    pub start-least : {s z : ℕ} → z < B.terminals → Least σ (Arrival σ B claim s z) (D s z)
    start-least {s} {z} h = record { below = λ x (a, n, c). start-below refl c; attained = f.attained s z h }

  module _ {weight G : ℕ → ℕ → ℕ} (f : ToGoal σ B claim weight G) where
    goal-most : (q a : ℕ) → a < B.terminals → G q a ≤ unreached σ
    goal-most q a h = ⊎_elim (λ e. omega arith) (λ o. rw o.sum (plus-bounded σ _ _)) (f.attained q a h)

    goal-below : {q a v z s : ℕ} (n : ℕ) → a < B.terminals → Start σ B claim q a v z n s → G q a ≤ plus σ v (weight s z)
    goal-below {q} {a} zero h nowhere = omega (arith, zero-plus σ (G q a) (goal-most q a h), plus-mono σ (le_refl 0) (f.goal q a h))
    goal-below {q = q} (suc n) h (shift-first {q₁} {b} e c) =
        rw plus_assoc (le_trans (f.closed _ _ _ h (from-shift b e (claimed-terminal c))) (plus-mono σ (le_refl _) (goal-below {q = q₁} n (claimed-terminal c) (claimed-start c))))
    goal-below {q = q} (suc n) h (goto-first {q₁} {b} X g c) =
        rw plus_assoc (le_trans (f.closed _ _ _ h (from-goto X b g (claimed-terminal c))) (plus-mono σ (le_refl _) (goal-below {q = q₁} n (claimed-terminal c) (claimed-start c))))

    pub goal-least : {q a : ℕ} → a < B.terminals → Least σ (OnwardTo σ B claim (Weighs weight) q a) (G q a)
    goal-least {q} {a} h = record { below = λ v o. rw (o.sum, o.done) (goal-below o.count h (claimed-start o.walk)); attained = f.attained q a h }
