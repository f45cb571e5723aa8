-- Laws of the ranks of an accepted book: each is below T, no two are the same. Assumes nothing.
use Rattle.std.specs.Prelude.{Bool, true, false, not, ◌&&◌, ◌||◌, List, [], ◌∷◌, ◌≢◌, ◌≡◌, refl, ltb, eqb, length, get_or, take, drop}
use Rattle.std.proofs.lemmas.Bool.{false≢true}
use Rattle.std.proofs.Common.{sym, ◌∙◌, add-zero, add-one, length-drop, get_or-take, get_or-drop, length-take-le}
use Prim.Native.Nat.{ℕ, zero, suc, ◌+◌, ◌*◌, ◌-◌, ◌≤◌, ◌<◌}
use Rattle.std.proofs.Math.Decide.{dec_lt, ℕ_discrete}
use native.Mathlib.Omega.{arith}
use borrow.Author.Tests.{lt-ltb, le-ltb, eq-eqb, ne_eqb}
use Rattle.book.specs.Range.{part_length, among, fits}
use Rattle.book.specs.Tables.{rank_of}
use Rattle.book.specs.TablesLaws.{Accepted, IsBook}
use Rattle.book.proofs.TablesLaws.{accepted-book, body-fits}
use Rattle.book.specs.declared.Part.TheVariants.{Ranks}
use Rattle.book.specs.declared.Sizes.{Sizes}
use Rattle.forms.specs.Forms.{lowest}

-- what is at an index is among the numbers
among-at : (vs : List ℕ) (i v : ℕ) → i < length vs → get_or vs i 0 ≡ v → among v vs ≡ true
among-at [] i v l e = absurd (omega arith)
among-at (x ∷ vs) zero v l e = rw (eq-eqb v x (sym e))
among-at (x ∷ vs) (suc i) v l e = go (eqb v x) (among-at vs i v (omega arith) e)
  where
    go : (b : Bool) → among v vs ≡ true → (b || among v vs) ≡ true
    go true f = refl
    go false f = f

-- a rank that fits
rank-fits : (d : Sizes) (i v : ℕ) (there : Bool) → fits d Ranks i there v ≡ true → (v < d.t) × (there ≡ false)
unfolding fits
rank-fits d i v there e = go (dec_lt v d.t) there e
  where
    go : Dec (v < d.t) → (b : Bool) → (ltb v d.t && not b) ≡ true → (v < d.t) × (b ≡ false)
    go (yes l) false f = (l, refl)
    go (yes l) true f = absurd (false≢true (rw (lt-ltb v d.t l) at f))
    go (no l) b f = absurd (false≢true (rw (le-ltb v d.t (omega arith)) at f))

module _ (d : Sizes) (cells : List ℕ) (e : Accepted d cells) where
  book : IsBook d cells
  book = accepted-book cells d e

  pub rank-told : (a : ℕ) → d.form ≡ 2 → rank_of cells a ≡ get_or cells (5 + 2 * d.p + a) 0
  unfolding rank_of
  rank-told a f = rw (← book.sizes, f)

  pub rank-number : (a : ℕ) → d.form ≢ 2 → rank_of cells a ≡ a
  unfolding rank_of
  rank-number a n = rw (← book.sizes, ne_eqb d.form 2 n)

  -- in form 2, what is known of the rank of a
  told-fits : (a : ℕ) → d.form ≡ 2 → a < d.t → (rank_of cells a < d.t) × (among (rank_of cells a) (take a (drop (5 + 2 * d.p) cells)) ≡ false)
  told-fits a f l = rw (rank-told a f) (rank-fits d a _ _ ((body-fits book).1.0 a (rw f l)))

  pub rank_below : (a : ℕ) → a < d.t → rank_of cells a < d.t
  rank_below a l = go (ℕ_discrete d.form 2)
    where
      go : Dec (d.form ≡ 2) → rank_of cells a < d.t
      go (yes f) = (told-fits a f l).0
      go (no n) = rw (rank-number a n) l

  pub rank-differs : (a b : ℕ) → b < a → a < d.t → rank_of cells b ≢ rank_of cells a
  rank-differs a b h l same = go (ℕ_discrete d.form 2)
    where
      go : Dec (d.form ≡ 2) → ⊥
      go (no n) = omega (arith, same, rank-number a n, rank-number b n)
      go (yes f) =
          let ranks : part_length d Ranks ≡ d.t = rw f in
          let room : d.t + (5 + 2 * d.p) ≤ length cells = omega (arith, book.count, ranks) in
          let count : length (take a (drop (5 + 2 * d.p) cells)) ≡ a = length-take-le a (drop (5 + 2 * d.p) cells) (rw length-drop (omega arith)) in
          let here : get_or (take a (drop (5 + 2 * d.p) cells)) b 0 ≡ rank_of cells a =
          get_or-take a (drop (5 + 2 * d.p) cells) b 0 h ∙ get_or-drop (5 + 2 * d.p) cells b 0 ∙ sym (rank-told b f) ∙ same in
          false≢true (sym (told-fits a f l).1 ∙ among-at (take a (drop (5 + 2 * d.p) cells)) b (rank_of cells a) (omega (arith, count)) here)

-- ---- the lowest of some numbers, as a loop finds it
module _ (test : ℕ → Bool) (n i : ℕ) where
  pub lowest-more : i < n → test i ≡ false → lowest test (n - i) i ≡ lowest test (n - (i + 1)) (i + 1)
  unfolding lowest
  lowest-more h e =
      let k : n - i ≡ suc (n - (i + 1)) = omega arith in
      rw (k, e, add-one)

  pub lowest-found : i < n → test i ≡ true → lowest test (n - i) i ≡ i
  unfolding lowest
  lowest-found h e = let k : n - i ≡ suc (n - (i + 1)) = omega arith in rw (k, e)

  pub lowest-done : n ≤ i → lowest test (n - i) i ≡ i
  unfolding lowest
  lowest-done h = let k : n - i ≡ 0 = omega arith in rw k

-- where none passes
pub lowest-none : (test : ℕ → Bool) (n a : ℕ) → ((k : ℕ) → a ≤ k → k < a + n → test k ≡ false) → lowest test n a ≡ a + n
unfolding lowest
lowest-none test zero a f = sym (add-zero a)
lowest-none test (suc n) a f =
    let k : suc a + n ≡ a + suc n = omega arith in
    rw (f a (omega arith) (omega arith)) (lowest-none test n (suc a) (λ k h l. f k (omega arith) (omega arith)) ∙ k)
