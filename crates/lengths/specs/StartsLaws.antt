-- Laws of walks from many starts: the layers from there, and that they lead to the claimed breaks. Assumes nothing.
use Rattle.std.specs.Prelude.{◌⊎◌, ◌≡◌, refl, ℕ, zero, suc, ◌+◌, ◌≤◌, ◌<◌}
use Rattle.std.proofs.Common.{inl, inr, ⊎_elim, sym, le_trans, le_refl, add-zero, add-suc, arith}
use Rattle.book.specs.Tables.{Tables}
use Rattle.book.specs.declared.Action.TheVariants.{Reduce}
use Rattle.walk.specs.Scale.{Scale, unreached}
use Rattle.walk.specs.Sum.{shift_cost, plus}
use Rattle.walk.proofs.CostLaws.{plus-mono, plus_assoc, plus-far-left, zero-plus, plus-zero}
use Rattle.walk.specs.Claims.{Claims, Claimed, none, shifting, crossing, Least}
use Rattle.walk.proofs.ClaimsLaws.{claimed-next, claimed-terminal, claimed-bounded, onward}
use Rattle.walk.specs.Layers.{Longer, add-shift, add-goto, by-shift, by-goto}
use Rattle.breaks.specs.BreakClaims.{ClaimedFar}
use Rattle.lengths.specs.Starts.{Ahead, ends, goes, Led, LayerFrom, LackingStarts, BottomStarts}

module _ {σ : Scale} {B : Tables} {claim : Claims} where
  -- what a walk ends with is ahead where it begins
  pub walk-ahead : {X m q a v z n s : ℕ} → Claimed σ B claim q a v z n s → Ahead B X (m + n) s → Ahead B X m q
  walk-ahead (none h) x = rw add-zero at x
  walk-ahead (shifting z c e h) x = walk-ahead c (goes (by-shift e) (rw add-suc at x))
  walk-ahead (crossing X z c g h) x = walk-ahead c (goes (by-goto g) (rw add-suc at x))

  -- ---- the layers: no transitions, ..
  pub from-here : {D : ℕ → ℕ → ℕ} → ((q a : ℕ) → a < B.terminals → D q a ≤ unreached σ) → LayerFrom σ B claim D 0 D
  from-here {D} m s z h = record {
    below = λ v o. rw o.sum (low h o.walk);
    attained = inr (record { state = s; first = z; after = 0; walk = none h; sum = sym (plus-zero σ (D s z) (m s z h)) });
  }
    where
      low : {q a x z s : ℕ} → z < B.terminals → Claimed σ B claim q a x z 0 s → D s z ≤ plus σ (D q a) x
      low {q} {a} h (none j) = omega (arith, plus-zero σ (D q a) (m q a h))

  -- .. and one more
  pub from-longer : {D L L' : ℕ → ℕ → ℕ} {n : ℕ} → LayerFrom σ B claim D n L → ((s z : ℕ) → z < B.terminals → Least σ (Longer σ B claim L s z) (L' s z))
      → LayerFrom σ B claim D (suc n) L'
  from-longer {D} {L} {L'} {n} k l s z h = record {
    below = λ v o. rw o.sum (low o.walk (λ y i. (l s z h).below y i));
    attained = ⊎_elim inl (λ o. up o) (l s z h).attained;
  }
    where
      nearer : {q a x b q₁ : ℕ} → Claimed σ B claim q a x b n q₁ → L q₁ b ≤ plus σ (D q a) x
      nearer {q} {a} {x} {b} {q₁} c = (k q₁ b (claimed-next c)).below _ (record { state = q; first = a; after = x; walk = c; sum = refl })

      low : {q a x d z s : ℕ} → Claimed σ B claim q a x z (suc n) s → ((y : ℕ) → Longer σ B claim L s z y → d ≤ y) → d ≤ plus σ (D q a) x
      low (shifting z c e h) m = rw (← plus_assoc) (le_trans (m _ (add-shift z (claimed-next c) e h)) (plus-mono σ (nearer c) (le_refl _)))
      low (crossing {b} X z c g h) m = rw (← plus_assoc) (le_trans (m _ (add-goto X b z (claimed-next c) g h)) (plus-mono σ (nearer c) (le_refl _)))

      up : {s z v : ℕ} → Longer σ B claim L s z v → (v ≡ unreached σ) ⊎ Led σ B claim D (suc n) s z v
      up (add-shift {q₁} {t} z i e h) = ⊎_elim
          (λ x. inl (plus-far-left σ _ _ (omega arith)))
          (λ o. inr (record { state = o.state; first = o.first; after = plus σ o.after (shift_cost σ t); walk = shifting z o.walk e h; sum = rw (o.sum, plus_assoc) }))
          (k q₁ t i).attained
      up (add-goto {q₁} X b z i g h) = ⊎_elim
          (λ x. inl (plus-far-left σ _ _ (omega arith)))
          (λ o. inr (record { state = o.state; first = o.first; after = plus σ o.after (claim q₁ X b z); walk = crossing X z o.walk g h; sum = rw (o.sum, plus_assoc) }))
          (k q₁ b i).attained

  -- where nothing is reached, nothing is later
  pub from-none : {D L : ℕ → ℕ → ℕ} {n : ℕ} → LayerFrom σ B claim D n L → ((q z : ℕ) → L q z ≡ unreached σ) → (k : ℕ) {s z v : ℕ} → Led σ B claim D (n + k) s z v → unreached σ ≤ v
  from-none {D} {L} {n} l e k {s} {z} {v} o = (later k s z (claimed-next o.walk)).below v o
    where
      blank : {s z : ℕ} → Least σ (Longer σ B claim (λ q b. unreached σ) s z) (unreached σ)
      blank = record { below = λ x o. low o; attained = inl refl }
        where
          low : {s z x : ℕ} → Longer σ B claim (λ q b. unreached σ) s z x → unreached σ ≤ x
          low (add-shift {t} z i f h) = rw (plus-far-left σ (unreached σ) (shift_cost σ t) (le_refl _)) (le_refl _)
          low (add-goto {q₁} X b z i g h) = rw (plus-far-left σ (unreached σ) (claim q₁ X b z) (le_refl _)) (le_refl _)

      later : (k : ℕ) → LayerFrom σ B claim D (n + k) (λ q z. unreached σ)
      later zero s z h = rw (add-zero, ← e s z) (l s z h)
      later (suc k) s z h = rw add-suc (from-longer (later k) (λ s z h. blank) s z h)

  -- ---- the breaks of a reduction of p in s under z: from the distances of the states without the goto, as many transitions as p is long ..
  module _ {p s z w : ℕ} {D : ℕ → ℕ → ℕ} (k : LackingStarts σ B claim (B.lhs p) D) where
    pub far-led : B.act s z ≡ Reduce p → {a : ℕ} → ClaimedFar σ B claim p s z 0 a w → (x : ℕ) × Led σ B claim D (B.len p) s z x × (x ≤ w)
    far-led e {a} f = (
      plus σ (D f.state f.next) f.after,
      record { state = f.state; first = f.next; after = f.after; walk = f.done.1; sum = refl },
      rw f.sum (plus-mono σ ((k f.state f.next (claimed-next f.walk)).below f.before (f.done.0, (a, f.count, f.walk)) ahead) (le_refl f.after)),
    )
      where
        ahead : Ahead B (B.lhs p) 0 f.state
        ahead = walk-ahead f.done.1 (ends z (record { production = p; action = e; fails = (refl, omega arith) }))

    pub led-far : Led σ B claim D (B.len p) s z w → w < unreached σ → (a : ℕ) × ClaimedFar σ B claim p s z 0 a w
    led-far o u = ⊎_elim
        (λ e. absurd (omega (arith, o.sum, plus-far-left σ (D o.state o.first) o.after (omega arith))))
        (λ (g, (a, n, c)). (a, onward o.after c (g, o.walk) o.sum))
        (k o.state o.first (claimed-terminal o.walk)).attained

  -- .. and from the bottom fewer
  module _ {s z w m : ℕ} {D : ℕ → ℕ → ℕ} (k : BottomStarts σ B.terminals D) where
    pub bottom-led : {a : ℕ} → Claimed σ B claim 0 a w z m s → (x : ℕ) × Led σ B claim D m s z x × (x ≤ w)
    bottom-led {a} c = (
      plus σ (D 0 a) w,
      record { state = 0; first = a; after = w; walk = c; sum = refl },
      omega (arith, zero-plus σ w (claimed-bounded c), plus-mono σ ((k 0 a (claimed-terminal c)).below 0 (refl, refl)) (le_refl w)),
    )

    pub led-bottom : Led σ B claim D m s z w → w < unreached σ → (a : ℕ) × Claimed σ B claim 0 a w z m s
    led-bottom o u = ⊎_elim
        (λ e. absurd (omega (arith, o.sum, plus-far-left σ (D o.state o.first) o.after (omega arith))))
        (λ (j, e).
        let same : o.after ≡ w = sym (rw (o.sum, e) (zero-plus σ o.after (claimed-bounded o.walk))) in
        (o.first, rw (j, same) at o.walk))
        (k o.state o.first (claimed-terminal o.walk)).attained
