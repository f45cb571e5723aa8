-- Laws of costs on any scale: of capped sums, and that at most one number is exact for a set of words. Assumes nothing.
use Rattle.std.specs.Prelude.{true, ◌≡◌, refl, List, [], ◌∷◌, ◌++◌, ◌↔◌, ℕ, ◌+◌, ◌≤◌, ◌<◌, max, ltb, length}
use Rattle.std.proofs.Common.{inl, inr, ⊎_elim, le_antisymm}
use Rattle.std.proofs.Math.Decide.{dec_lt}
use native.Mathlib.Omega.{arith}
use borrow.Author.Tests.{lt-ltb, le-ltb, ltb-true, le-leb, lt-leb}
use Rattle.walk.specs.Scale.{Scale, long, unreached, cap}
use Rattle.walk.specs.Cost.{cost, Attained, Exact}
use Rattle.walk.specs.Sum.{plus, cut}

-- the two cases of a capped sum, in a form that omega reads
data Sum (σ : Scale) (x y r : ℕ) : Type 0 where
  near : x < unreached σ → y < unreached σ → r ≡ cap σ (x + y) → Sum σ x y r
  far : unreached σ ≤ max x y → r ≡ unreached σ → Sum σ x y r

module _ (σ : Scale) where
  pub plus-far-left : (x y : ℕ) → unreached σ ≤ x → plus σ x y ≡ unreached σ
  unfolding plus
  plus-far-left x y h = simp (le-ltb x (unreached σ) h)

  pub plus-near : (x y : ℕ) → x < unreached σ → y < unreached σ → plus σ x y ≡ cap σ (x + y)
  unfolding plus
  plus-near x y g h = simp (lt-ltb x (unreached σ) g, lt-ltb y (unreached σ) h)

  pub plus-far-right : (x y : ℕ) → unreached σ ≤ y → plus σ x y ≡ unreached σ
  unfolding plus
  plus-far-right x y h = go (dec_lt x (unreached σ))
    where
      go : Dec (x < unreached σ) → plus σ x y ≡ unreached σ
      go (yes g) = simp (lt-ltb x (unreached σ) g, le-ltb y (unreached σ) h)
      go (no g) = let f : unreached σ ≤ x = omega arith in simp (le-ltb x (unreached σ) f)

  sum : (x y : ℕ) → Sum σ x y (plus σ x y)
  sum x y = go (dec_lt x (unreached σ)) (dec_lt y (unreached σ))
    where
      go : Dec (x < unreached σ) → Dec (y < unreached σ) → Sum σ x y (plus σ x y)
      go (yes g) (yes h) = near g h (plus-near x y g h)
      go (yes g) (no h) = let f : unreached σ ≤ y = omega arith in far (omega arith) (plus-far-right x y f)
      go (no g) d = let f : unreached σ ≤ x = omega arith in far (omega arith) (plus-far-left x y f)

  pub plus-mono : {x x' y y' : ℕ} → x ≤ x' → y ≤ y' → plus σ x y ≤ plus σ x' y'
  plus-mono {x} {x'} {y} {y'} g h = go (sum x y) (sum x' y')
    where
      go : Sum σ x y (plus σ x y) → Sum σ x' y' (plus σ x' y') → plus σ x y ≤ plus σ x' y'
      go (near a b e) (near c d f) = omega arith
      go (near a b e) (far c f) = omega arith
      go (far a e) (near c d f) = omega arith
      go (far a e) (far c f) = omega arith

  pub plus_comm : (x y : ℕ) → plus σ x y ≡ plus σ y x
  plus_comm x y = go (sum x y) (sum y x)
    where
      go : Sum σ x y (plus σ x y) → Sum σ y x (plus σ y x) → plus σ x y ≡ plus σ y x
      go (near a b e) (near c d f) = omega arith
      go (near a b e) (far c f) = omega arith
      go (far a e) (near c d f) = omega arith
      go (far a e) (far c f) = omega arith

  pub plus_assoc : (x y z : ℕ) → plus σ (plus σ x y) z ≡ plus σ x (plus σ y z)
  plus_assoc x y z = go (sum x y) (sum y z)
    where
      go : Sum σ x y (plus σ x y) → Sum σ y z (plus σ y z) → plus σ (plus σ x y) z ≡ plus σ x (plus σ y z)
      go (near a b e) (near c d f) = omega (arith, plus-near (plus σ x y) z (omega arith) d, plus-near x (plus σ y z) a (omega arith))
      go (near a b e) (far c f) = omega (arith, plus-far-right (plus σ x y) z (omega arith), plus-far-right x (plus σ y z) (omega arith))
      go (far a e) (near c d f) = omega (arith, plus-far-left (plus σ x y) z (omega arith), plus-far-left x (plus σ y z) (omega arith))
      go (far a e) (far c f) = omega (arith, plus-far-left (plus σ x y) z (omega arith), plus-far-right x (plus σ y z) (omega arith))

  pub plus-bounded : (x y : ℕ) → plus σ x y ≤ unreached σ
  plus-bounded x y = go (sum x y)
    where
      go : Sum σ x y (plus σ x y) → plus σ x y ≤ unreached σ
      go (near a b e) = omega arith
      go (far a e) = omega arith

  -- zero is neutral up to unreached
  pub plus-zero : (x : ℕ) → x ≤ unreached σ → plus σ x 0 ≡ x
  plus-zero x h = go (sum x 0)
    where
      go : Sum σ x 0 (plus σ x 0) → plus σ x 0 ≡ x
      go (near a b e) = omega arith
      go (far a e) = omega arith

  pub zero-plus : (x : ℕ) → x ≤ unreached σ → plus σ 0 x ≡ x
  zero-plus x h = go (sum 0 x)
    where
      go : Sum σ 0 x (plus σ 0 x) → plus σ 0 x ≡ x
      go (near a b e) = omega arith
      go (far a e) = omega arith

  -- a sum is no less than its first part
  pub plus-left-le : (x y : ℕ) → x ≤ unreached σ → x ≤ plus σ x y
  plus-left-le x y h = go (sum x y)
    where
      go : Sum σ x y (plus σ x y) → x ≤ plus σ x y
      go (near a b e) = omega arith
      go (far a e) = omega arith

  -- where a sum is within a bound below unreached, its second part is
  pub plus-right-within : (x y r : ℕ) → r < unreached σ → plus σ x y ≤ r → y ≤ r
  plus-right-within x y r g h = go (sum x y)
    where
      go : Sum σ x y (plus σ x y) → y ≤ r
      go (near a b e) = omega arith
      go (far a e) = omega arith

  -- the capped sum of capped costs is the capped cost of the sum
  pub plus-cap : (m n : ℕ) → plus σ (cap σ m) (cap σ n) ≡ cap σ (m + n)
  plus-cap m n = omega (arith, plus-near (cap σ m) (cap σ n) (omega arith) (omega arith))

  pub cost-append : (w v : List ℕ) → cost σ (w ++ v) ≡ cost σ w + cost σ v
  cost-append [] v = omega arith
  cost-append (t ∷ w) v = omega (arith, cost-append w v)

  -- every symbol costs something
  pub length-least : (w : List ℕ) → length w ≤ cost σ w
  length-least [] = omega arith
  length-least (t ∷ w) = omega (arith, length-least w)

  pub plus-cost : (w v : List ℕ) → plus σ (cap σ (cost σ w)) (cap σ (cost σ v)) ≡ cap σ (cost σ (w ++ v))
  plus-cost w v = omega (arith, plus-cap (cost σ w) (cost σ v), cost-append w v)

  pub plus-cost-le : {x y : ℕ} (w v : List ℕ) → x ≤ cap σ (cost σ w) → y ≤ cap σ (cost σ v) → plus σ x y ≤ cap σ (cost σ (w ++ v))
  plus-cost-le {x} {y} w v g h = omega (arith, plus-cost w v, plus-mono g h)

  -- costs that are cut at a bound
  pub cut-within : (bound v : ℕ) → v ≤ bound → cut σ bound v ≡ v
  unfolding cut
  cut-within bound v h = simp (le-leb v bound h)

  pub cut-beyond : (bound v : ℕ) → bound < v → cut σ bound v ≡ unreached σ
  unfolding cut
  cut-beyond bound v h = simp (lt-leb v bound h)

  pub cut-unreached : (bound : ℕ) → cut σ bound (unreached σ) ≡ unreached σ
  cut-unreached bound = go (dec_lt bound (unreached σ))
    where
      go : Dec (bound < unreached σ) → cut σ bound (unreached σ) ≡ unreached σ
      go (yes h) = cut-beyond bound (unreached σ) h
      go (no h) = cut-within bound (unreached σ) (omega arith)

  -- a cut at long changes no sum
  pub plus-cut : (x y : ℕ) → plus σ (cut σ (long σ) x) y ≡ plus σ x y
  plus-cut x y = go (dec_lt (long σ) x)
    where
      go : Dec (long σ < x) → plus σ (cut σ (long σ) x) y ≡ plus σ x y
      go (yes h) = rw (cut-beyond (long σ) x h, plus-far-left x y (omega arith)) (plus-far-left (unreached σ) y (omega arith))
      go (no h) = rw (cut-within (long σ) x (omega arith)) refl

  pub attained-map : {P Q : List ℕ → Type 0} {v : ℕ} → ((w : List ℕ) → P w → Q w) → Attained σ P v → Attained σ Q v
  attained-map f x = ⊎_elim inl (λ (w, p, e). inr (w, f w p, e)) x

  -- words of two sets, one after the other
  pub attained-plus : {P Q R : List ℕ → Type 0} {u v : ℕ} → ((x y : List ℕ) → P x → Q y → R (x ++ y)) → Attained σ P u → Attained σ Q v → Attained σ R (plus σ u v)
  attained-plus {u} {v} f a b = ⊎_elim
      (λ e. inl (plus-far-left u v (omega arith)))
      (λ (x, p, e). ⊎_elim
      (λ g. inl (plus-far-right u v (omega arith)))
      (λ (y, q, g). inr (x ++ y, f x y p q, rw (e, g) (plus-cost x y)))
      b)
      a

module _ {σ : Scale} {P : List ℕ → Type 0} where
  exact-le : {u v : ℕ} → Exact σ P u → Exact σ P v → u ≤ v
  exact-le {u} {v} e f = ⊎_elim (λ h. go e.attained h) (λ (w, p, h). omega (arith, e.least w p)) f.attained
    where
      go : Attained σ P u → v ≡ unreached σ → u ≤ v
      go (inl g) h = omega arith
      go (inr x) h = omega (arith, x.2)

  -- at most one number is exact
  pub exact_one : {u v : ℕ} → Exact σ P u → Exact σ P v → u ≡ v
  exact_one e f = le_antisymm (exact-le e f) (exact-le f e)

  pub exact_none : Exact σ P (unreached σ) ↔ ((w : List ℕ) → P w → ⊥)
  exact_none = (λ e w p. omega (arith, e.least w p), λ f. record { least = λ w p. absurd (f w p); attained = inl refl })

  -- and below unreached there is a word
  pub exact-reached : {v : ℕ} → Exact σ P v → (ltb v (unreached σ) ≡ true) ↔ ((w : List ℕ) × P w)
  exact-reached {v} x = (
    λ e. ⊎_elim (λ u. absurd (omega (arith, ltb-true v (unreached σ) e))) (λ (w, p, u). (w, p)) x.attained,
    λ (w, p). lt-ltb v (unreached σ) (omega (arith, x.least w p)),
  )
