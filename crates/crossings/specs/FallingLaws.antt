-- Laws of tables whose cells only fall: no turn, one store, two passes, one turn more. Assumes nothing.
use Rattle.std.specs.Prelude.{List, ◌≡◌, refl, ℕ, ◌+◌, ◌≤◌, ◌<◌, max, length, get_or, set}
use Rattle.std.proofs.Common.{◌∙◌, subst, le_antisymm, arith}
use Rattle.std.proofs.Math.Decide.{ℕ_discrete}
use Rattle.layers.specs.TotalLaws.{total-set}
use Rattle.crossings.specs.Falling.{Fallen, Pass, Sunk, Each}

pub fallen-none : {l : List ℕ} → Fallen 0 l l
fallen-none {l} = record { sum = omega arith; same = λ e. refl }

pub fallen-set : (l : List ℕ) (k v : ℕ) → k < length l → v < get_or l k 0 → Fallen 1 l (set l k v)
fallen-set l k v h s = record { sum = omega (arith, total-set l k v h); same = λ e. absurd (omega (arith, e)) }

pub fallen-join : {n r : ℕ} {a b c : List ℕ} → Fallen n a b → Fallen r b c → Fallen (max n r) a c
fallen-join f g = record { sum = omega arith; same = λ e. g.same (omega (arith, e)) ∙ f.same (omega (arith, e)) }

module _ {K : List ℕ → List ℕ → Type 0} where
  -- nothing to do
  pub pass-none : {D : List ℕ → Type 0} {l : List ℕ} → K l l → D l → Pass K D 0 l l
  pass-none k x = record { keeps = k; fallen = fallen-none; done = λ e. x }

  pub pass-map : {D E : List ℕ → Type 0} {n : ℕ} {a b : List ℕ} → (D b → E b) → Pass K D n a b → Pass K E n a b
  pass-map f p = record { keeps = p.keeps; fallen = p.fallen; done = λ e. f (p.done e) }

  -- the loop is left with every turn done
  pub pass-done : (D : ℕ → List ℕ → Type 0) {i n k : ℕ} {a b : List ℕ} → i ≤ k → k ≤ i → Pass K (Each D i) n a b → Pass K (Each D k) n a b
  pass-done D {n} {a} {b} h g p = subst (λ (j : ℕ). Pass K (Each D j) n a b) (le_antisymm h g) p

  -- one after the other, where the second's result follows from both
  pub pass-then : {C D E : List ℕ → Type 0} {n r m : ℕ} {a b c : List ℕ} → (K a b → K b c → K a c) → m ≡ max n r → ((n ≡ 0) → (r ≡ 0) → (c ≡ b) → C b → D c → E c)
      → Pass K C n a b → Pass K D r b c → Pass K E m a c
  pass-then {n} {r} join i f p q = rw i record {
    keeps = join p.keeps q.keeps;
    fallen = fallen-join p.fallen q.fallen;
    done = λ e.
        let z : n ≡ 0 = omega (arith, e) in
        let y : r ≡ 0 = omega (arith, e) in
        f z y (q.fallen.same y) (p.done z) (q.done y);
  }

  -- what is lowered after a pass that lowered some
  pub sunk-more : {D : List ℕ → Type 0} {n : ℕ} {a b c : List ℕ} → (K a b → K b c → K a c) → Sunk K a b → Pass K D n b c → Sunk K a c
  sunk-more join s p = record { keeps = join s.keeps p.keeps; sum = omega (arith, s.sum, p.fallen.sum) }

  pub pass-sunk : {D : List ℕ → Type 0} {n : ℕ} {a b c : List ℕ} → (K a b → K b c → K a c) → ¬ (n ≡ 0) → Pass K D n a b → Sunk K b c → Pass K D n a c
  pass-sunk join some p s = record {
    keeps = join p.keeps s.keeps;
    fallen = record { sum = omega (arith, p.fallen.sum, s.sum); same = λ e. absurd (some e) };
    done = λ e. absurd (some e);
  }

  -- one turn more
  pub pass-more : (D : ℕ → List ℕ → Type 0) (i : ℕ) {n r m : ℕ} {a b c : List ℕ} → (K a b → K b c → K a c) → m ≡ max n r
      → Pass K (Each D i) n a b → Pass K (D i) r b c → Pass K (Each D (i + 1)) m a c
  pass-more D i {b} {c} join e p q = pass-then join e (λ z y same all this j h. turn same all this j h (ℕ_discrete j i)) p q
    where
      turn : c ≡ b → Each D i b → D i c → (j : ℕ) → j < i + 1 → Dec (j ≡ i) → D j c
      turn same all this j h (yes k) = rw k this
      turn same all this j h (no k) = rw same (all j (omega arith))
