-- Laws of the listed terminals: none, what stands behind them, one that is passed over, and one more. Assumes nothing.
use Rattle.std.specs.Prelude.{List, ◌≡◌, refl, ℕ, ◌+◌, ◌*◌, ◌≤◌, ◌<◌, length, get_or, set}
use Rattle.std.proofs.Common.{sym, ◌∙◌, arith, length-set, get_or-set_same, get_or-set_other}
use Rattle.std.proofs.Math.Decide.{ℕ_discrete}
use Rattle.layers.specs.Leaving.{Leaving, TerminalsListed}

pub terminals-none : {t bound row : ℕ} {rows from terminals offsets costs : List ℕ} → (length terminals ≡ 32) × (length offsets ≡ 32) × (length costs ≡ 32)
    → TerminalsListed t bound row rows from 0 terminals offsets costs 0
terminals-none s = record { sizes = s; few = omega arith; each = λ j h. absurd (omega arith); all = λ b h near on. absurd (omega arith) }

module _ {t bound row : ℕ} {rows from : List ℕ} {i : ℕ} {terminals offsets costs : List ℕ} {n : ℕ} (l : TerminalsListed t bound row rows from i terminals offsets costs n) where
  later : (b offset cost : ℕ) → Leaving t bound row rows from i b offset cost → Leaving t bound row rows from (i + 1) b offset cost
  later b offset cost e = record { below = omega (arith, e.below); begins = e.begins; read = e.read; near = e.near; unskipped = e.unskipped }

  -- what stands behind the entries does not count
  pub terminals-spare : (x y v : ℕ) → TerminalsListed t bound row rows from i (set terminals n x) (set offsets n y) (set costs n v) n
  terminals-spare x y v = record {
    sizes = (length-set terminals n x ∙ l.sizes.0, length-set offsets n y ∙ l.sizes.1, length-set costs n v ∙ l.sizes.2);
    few = l.few;
    each = λ j h. rw (get_or-set_other terminals n j x 0 (λ e. omega (arith, e)), get_or-set_other offsets n j y 0 (λ e. omega (arith, e)), get_or-set_other costs n j v 0 (λ e. omega (arith, e))) (l.each j h);
    all = λ b h near on. let (j, k, f) = l.all b h near on in (j, k, get_or-set_other terminals n j x 0 (λ e. omega (arith, e, k)) ∙ f);
  }

  -- terminal i is left out ..
  pub terminals-same : (get_or from (row + i) 0 ≤ bound → get_or rows (row + i) 0 ≡ 0) → TerminalsListed t bound row rows from (i + 1) terminals offsets costs n
  terminals-same out = record {
    sizes = l.sizes;
    few = omega (arith, l.few);
    each = λ j h. later _ _ _ (l.each j h);
    all = λ b h near on. all b h near on (ℕ_discrete b i);
  }
    where
      all : (b : ℕ) → b < i + 1 → get_or from (row + b) 0 ≤ bound → ¬ (get_or rows (row + b) 0 ≡ 0) → Dec (b ≡ i) → (j : ℕ) × (j < n) × (get_or terminals j 0 ≡ b)
      all b h near on (yes e) = absurd (on (rw e (out (rw e at near))))
      all b h near on (no m) = l.all b (omega arith) near on

  -- .. or put at the end
  pub terminals-more : {v : ℕ} → i < 32 → v ≡ get_or from (row + i) 0 → v ≤ bound → ¬ (get_or rows (row + i) 0 ≡ 0) → TerminalsListed t bound row rows from (i + 1) (set terminals n i) (set offsets n (i * t)) (set costs n v) (n + 1)
  terminals-more {v} small e near unskipped = record {
    sizes = spare.sizes;
    few = omega (arith, l.few);
    each = λ j h. each j h (ℕ_discrete j n);
    all = λ b h near on. all b h near on (ℕ_discrete b i);
  }
    where
      spare : TerminalsListed t bound row rows from i (set terminals n i) (set offsets n (i * t)) (set costs n v) n
      spare = terminals-spare i (i * t) v

      here : (k : List ℕ) (x : ℕ) → length k ≡ 32 → get_or (set k n x) n 0 ≡ x
      here k x s = get_or-set_same k n x 0 (omega (arith, l.few))

      each : (j : ℕ) → j < n + 1 → Dec (j ≡ n) → Leaving t bound row rows from (i + 1) (get_or (set terminals n i) j 0) (get_or (set offsets n (i * t)) j 0) (get_or (set costs n v) j 0)
      each j h (yes f) = rw (f, here terminals i l.sizes.0, here offsets (i * t) l.sizes.1, here costs v l.sizes.2) (record { below = omega arith; begins = refl; read = e; near = near; unskipped = unskipped })
      each j h (no m) = later _ _ _ (spare.each j (omega arith))

      all : (b : ℕ) → b < i + 1 → get_or from (row + b) 0 ≤ bound → ¬ (get_or rows (row + b) 0 ≡ 0) → Dec (b ≡ i) → (j : ℕ) × (j < n + 1) × (get_or (set terminals n i) j 0 ≡ b)
      all b h near on (yes f) = (n, omega arith, here terminals i l.sizes.0 ∙ sym f)
      all b h near on (no m) = let (j, k, f) = spare.all b (omega arith) near on in (j, omega arith, f)
