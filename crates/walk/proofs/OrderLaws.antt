-- Laws of the order of words: it is strict and total on words of one cost, and picks at most one word of any set. Assumes nothing.
use mathlib.Core.List.{List, ◌∷◌, List-discrete}
use Rattle.std.specs.Prelude.{◌⊎◌, ◌≢◌, ◌≡◌, refl, ℕ, suc, ◌<◌, length}
use Rattle.std.proofs.Common.{inl, inr, ⊎_elim, ap, sym, ◌∙◌, arith}
use Rattle.std.proofs.Math.Logic.{⊎_map}
use Rattle.std.proofs.Math.Decide.{dec_lt, ℕ_discrete}
use Rattle.book.specs.Tables.{Tables}
use Rattle.machine.specs.Machine.{Terminals, none, more}
use Rattle.walk.specs.Scale.{Scale}
use Rattle.walk.specs.Cost.{cost}
use Rattle.walk.specs.Order.{Earlier, parts, shares, Better}
use Rattle.walk.specs.Shortest.{Before, differs, agrees}
use Rattle.walk.specs.OrderLaws.{Ranked, RankAlike}

pub earlier-alike : {rank rank' : ℕ → ℕ} {B : Tables} {v w : List ℕ} → RankAlike rank rank' B → Terminals B v → Terminals B w → Earlier rank v w → Earlier rank' v w
earlier-alike {rank} {rank'} f (more {a} h i t) (more {a = b} h' i' t') (parts l) = let m : rank' a < rank' b = omega (arith, f a h i, f b h' i') in parts m
earlier-alike f none t' e = elim e [ ]
earlier-alike f (more h i t) none e = elim e [ ]
earlier-alike f (more h i t) (more h' i' t') (shares r) = shares (earlier-alike f t t' r)

module _ {rank : ℕ → ℕ} where
  pub before-length : {v w : List ℕ} → Before rank v w → length v ≡ length w
  before-length (differs h e) = ap suc e
  before-length (agrees r) = ap suc (before-length r)

  -- on words of one length the two orders are one
  pub before-earlier : {v w : List ℕ} → Before rank v w → Earlier rank v w
  before-earlier (differs h e) = parts h
  before-earlier (agrees r) = shares (before-earlier r)

  pub earlier-before : {v w : List ℕ} → Earlier rank v w → length v ≡ length w → Before rank v w
  earlier-before (parts {v} {w} h) e = let l : length v ≡ length w = omega arith in differs h l
  earlier-before (shares {v} {w} r) e = let l : length v ≡ length w = omega arith in agrees (earlier-before r l)

  pub earlier-irrefl : {v w : List ℕ} → Earlier rank v w → v ≢ w
  earlier-irrefl (parts {a} {b} h) i = let j : rank a ≡ rank b = cc in omega arith
  earlier-irrefl (shares r) i = earlier-irrefl r cc

  pub earlier-trans : {u v w : List ℕ} → Earlier rank u v → Earlier rank v w → Earlier rank u w
  earlier-trans (parts {a} h) (parts {b = c} i) = let l : rank a < rank c = omega arith in parts l
  earlier-trans (parts h) (shares r) = parts h
  earlier-trans (shares r) (parts i) = parts i
  earlier-trans (shares r) (shares r') = shares (earlier-trans r r')

module _ (σ : Scale) {rank : ℕ → ℕ} where
  pub better-irrefl : {v w : List ℕ} → Better σ rank v w → v ≢ w
  better-irrefl (inl h) i = omega (arith, ap (cost σ) i)
  better-irrefl (inr (e, r)) i = earlier-irrefl r i

  pub better-trans : {u v w : List ℕ} → Better σ rank u v → Better σ rank v w → Better σ rank u w
  better-trans (inl h) (inl i) = inl (omega arith)
  better-trans (inl h) (inr (e, r)) = inl (omega arith)
  better-trans (inr (e, r)) (inl h) = inl (omega arith)
  better-trans (inr (e, r)) (inr (f, r')) = inr (e ∙ f, earlier-trans r r')

  -- of any set of words at most one is better than all others
  pub better-one : {P : List ℕ → Type 0} {v w : List ℕ} → P v → ((u : List ℕ) → P u → u ≢ v → Better σ rank v u)
      → P w → ((u : List ℕ) → P u → u ≢ w → Better σ rank w u) → v ≡ w
  better-one {v} {w} p f q g = go (List-discrete ℕ_discrete v w)
    where
      go : Dec (v ≡ w) → v ≡ w
      go (yes e) = e
      go (no n) = absurd (better-irrefl (better-trans (f w q (λ e. n (sym e))) (g v p n)) refl)

module _ (σ : Scale) {rank : ℕ → ℕ} {B : Tables} (r : Ranked rank B) where
  -- of two words of one cost that differ, one is earlier than the other
  pub earlier-total : {v w : List ℕ} → Terminals B v → Terminals B w → cost σ v ≡ cost σ w → (v ≡ w) ⊎ (Earlier rank v w ⊎ Earlier rank w v)
  earlier-total none none e = inl refl
  earlier-total none (more h i t) e = absurd (omega arith)
  earlier-total (more h i t) none e = absurd (omega arith)
  earlier-total (more {a} {w = v} h i t) (more {a = b} {w} h' i' t') e = go (dec_lt (rank a) (rank b)) (dec_lt (rank b) (rank a)) (λ j. earlier-total t t' (omega (arith, ap σ.extra j)))
    where
      go : Dec (rank a < rank b) → Dec (rank b < rank a) → (b ≡ a → (v ≡ w) ⊎ (Earlier rank v w ⊎ Earlier rank w v))
          → (a ∷ v ≡ b ∷ w) ⊎ (Earlier rank (a ∷ v) (b ∷ w) ⊎ Earlier rank (b ∷ w) (a ∷ v))
      go (yes l) d o = inr (inl (parts l))
      go (no l) (yes m) o = inr (inr (parts m))
      go (no l) (no m) o =
          let j : b ≡ a = r b a i' i (omega arith) in
          rw j (⊎_elim (λ k. inl (ap (λ (x : List ℕ). a ∷ x) k)) (λ k. inr (⊎_map shares shares k)) (o j))
