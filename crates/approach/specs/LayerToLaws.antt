-- Laws of layers of walks to a pair: no transitions, one more in front, and the same costs. Assumes nothing.
use Rattle.std.specs.Prelude.{◌⊎◌, ◌≡◌, refl, ℕ, suc, ◌≤◌, ◌<◌}
use Rattle.std.proofs.Common.{inl, inr, ⊎_elim, le_trans, le_refl, arith}
use Rattle.book.specs.Tables.{Tables}
use Rattle.book.specs.TablesLaws.{InRange}
use Rattle.walk.specs.Scale.{Scale, unreached}
use Rattle.walk.proofs.CostLaws.{plus-mono, plus-far-right}
use Rattle.walk.specs.Claims.{Claims, Claimed, none, Least}
use Rattle.walk.specs.ClaimsLaws.{Start, shift-first, goto-first}
use Rattle.walk.proofs.ClaimsLaws.{claimed-terminal, claimed-shift, claimed-goto, claimed-start}
use Rattle.walk.specs.Layers.{Sooner, from-shift, from-goto}
use Rattle.breaks.specs.BreakClaims.{LayerTo}
use Rattle.approach.specs.Approach.{SoonerLayer}

module _ {σ : Scale} {B : Tables} {claim : Claims} where
  stays : {q a v z s : ℕ} → Claimed σ B claim q a v z 0 s → ((q ≡ s) × (a ≡ z)) × (v ≡ 0)
  stays (none h) = ((refl, refl), refl)

  -- no transitions: 0 at the pair, and unreached elsewhere
  pub to-here : {s z : ℕ} {L : ℕ → ℕ → ℕ} → ((q a : ℕ) → q < B.states → a < B.terminals → Least σ (λ v. ((q ≡ s) × (a ≡ z)) × (v ≡ 0)) (L q a)) → LayerTo σ B claim s z 0 L
  to-here f q a hq ha = record {
    below = λ v c. (f q a hq ha).below v (stays c);
    attained = ⊎_elim inl (λ ((i, j), e). inr (rw (← i, ← j, e) (none ha))) (f q a hq ha).attained;
  }

  -- one transition more in front
  pub to-sooner : {s z m : ℕ} {L L' : ℕ → ℕ → ℕ} → InRange B → LayerTo σ B claim s z m L → SoonerLayer σ B claim L L' → LayerTo σ B claim s z (suc m) L'
  to-sooner {s} {z} {m} {L} {L'} i k l q a hq ha = record {
    below = λ v c. low (λ q₁ b h j x d. (k q₁ b h j).below x d) (claimed-start c) (λ y o. (l q a hq ha).below y o);
    attained = ⊎_elim inl (λ o. up o) (l q a hq ha).attained;
  }
    where
      low : {m d z s q a v : ℕ} → ((q b : ℕ) → q < B.states → b < B.terminals → (x : ℕ) → Claimed σ B claim q b x z m s → L q b ≤ x) → Start σ B claim q a v z (suc m) s
          → ((y : ℕ) → Sooner σ B claim L q a y → d ≤ y) → d ≤ v
      low {q} {a} k (shift-first {q₁} {b} {v} e c) l =
          le_trans (l _ (from-shift b e (claimed-terminal c))) (plus-mono σ (le_refl _) (k q₁ b (i.shifts q a q₁ e).3 (claimed-terminal c) v c))
      low {q} k (goto-first {q₁} {b} {v} X g c) l =
          le_trans (l _ (from-goto X b g (claimed-terminal c))) (plus-mono σ (le_refl _) (k q₁ b (i.gotos q X q₁ g).2 (claimed-terminal c) v c))

      up : {v : ℕ} → Sooner σ B claim L q a v → (v ≡ unreached σ) ⊎ Claimed σ B claim q a v z (suc m) s
      up (from-shift {q₁} b e j) = ⊎_elim (λ x. inl (plus-far-right σ _ _ (omega arith))) (λ c. inr (claimed-shift e ha c)) (k q₁ b (i.shifts q a q₁ e).3 j).attained
      up (from-goto {q₁} X b g j) = ⊎_elim (λ x. inl (plus-far-right σ _ _ (omega arith))) (λ c. inr (claimed-goto X g ha c)) (k q₁ b (i.gotos q X q₁ g).2 j).attained

  -- the same costs in the states and terminals of the book
  pub to-as : {s z m : ℕ} {L L' : ℕ → ℕ → ℕ} → ((q a : ℕ) → q < B.states → a < B.terminals → L' q a ≡ L q a) → LayerTo σ B claim s z m L → LayerTo σ B claim s z m L'
  to-as e k q a hq ha = rw (e q a hq ha) (k q a hq ha)
