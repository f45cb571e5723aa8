-- The row of terminals by rising rank: what it is, and how it is filled. Assumes nothing.
use Rattle.std.specs.Prelude.{List, [], ◌∷◌, ◌≢◌, ◌≡◌, refl, ℕ, zero, suc, ◌+◌, ◌≤◌, ◌<◌, length, get_or, set, replicate}
use Rattle.std.proofs.Common.{sym, ◌∙◌, arith, eq-eqb, ne_eqb, length-set, get_or-set_same, get_or-set_other}
use Rattle.std.proofs.Math.Decide.{ℕ_discrete}
use Rattle.book.specs.Order.{place_in, Arranged}
use Rattle.book.specs.Tables.{rank_of}
use Rattle.book.specs.RangeLaws.{Small}
use Rattle.book.specs.TablesLaws.{Accepted}
use Rattle.book.proofs.TablesLaws.{accepted-book}
use Rattle.book.specs.declared.Sizes.{Sizes}
use Rattle.forms.specs.RankLaws.{rank_below, rank-differs}

-- a row of the terminals in which each but the end mark stands at its rank
pub record ByRank (cells : List ℕ) (d : Sizes) (order : List ℕ) : Type 0 where
  pub arranged : Arranged d.t order
  pub place : (a : ℕ) → 1 ≤ a → a < d.t → place_in order a ≡ rank_of cells a

-- ---- a row in which the terminals before a stand
pub record Filling (cells : List ℕ) (d : Sizes) (order : List ℕ) (a : ℕ) : Type 0 where
  pub size : length order ≡ 32
  pub small : (k : ℕ) → get_or order k 0 < d.t
  pub stands : (b : ℕ) → 1 ≤ b → b < a → get_or order (rank_of cells b) 0 ≡ b
  pub back : (k b : ℕ) → get_or order k 0 ≡ b → 1 ≤ b → (b < a) × (rank_of cells b ≡ k)

zeros : (n k : ℕ) → ◌≡◌ {A = ℕ} (get_or (replicate n 0) k 0) 0
zeros zero k = refl
zeros (suc n) zero = refl
zeros (suc n) (suc k) = zeros n k

-- the first place of a number that has one place
place-only : (row : List ℕ) (k a : ℕ) → k < length row → get_or row k 0 ≡ a → ((j : ℕ) → get_or row j 0 ≡ a → j ≡ k) → place_in row a ≡ k
unfolding place_in
place-only [] k a h e f = absurd (omega arith)
place-only (x ∷ row) zero a h e f = rw (eq-eqb x a e)
place-only (x ∷ row) (suc k) a h e f =
    let other : x ≢ a = λ s. omega (arith, f 0 s) in
    rw (ne_eqb x a other, place-only row k a (omega arith) e (λ j s. omega (arith, f (suc j) s)))

module _ (d : Sizes) (cells : List ℕ) (e : Accepted d cells) where
  small-sizes : Small d
  small-sizes = (accepted-book cells d e).small

  pub filling-none : Filling cells d (replicate 32 0) 1
  filling-none = record {
    size = refl;
    small = λ k. rw (zeros 32 k) small-sizes.some-terminal;
    stands = λ b h l. absurd (omega (arith, h, l));
    back = λ k b s h. absurd (omega (arith, zeros 32 k, s, h));
  }

  pub filling-more : {order : List ℕ} {a : ℕ} → Filling cells d order a → a < d.t → Filling cells d (set order (rank_of cells a) a) (a + 1)
  filling-more {order} {a} f l = record {
    size = length-set order (rank_of cells a) a ∙ f.size;
    small = λ k. small k (ℕ_discrete k (rank_of cells a));
    stands = λ b h m. stands b h m (ℕ_discrete b a);
    back = λ k b s h. back k b s h (ℕ_discrete k (rank_of cells a));
  }
    where
      below : rank_of cells a < length order
      below = omega (arith, rank_below d cells e a l, f.size, small-sizes.terminals)

      small : (k : ℕ) → Dec (k ≡ rank_of cells a) → get_or (set order (rank_of cells a) a) k 0 < d.t
      small k (yes s) = rw (s, get_or-set_same order (rank_of cells a) a 0 below) l
      small k (no n) = rw (get_or-set_other order (rank_of cells a) k a 0 n) (f.small k)

      stands : (b : ℕ) → 1 ≤ b → b < a + 1 → Dec (b ≡ a) → get_or (set order (rank_of cells a) a) (rank_of cells b) 0 ≡ b
      stands b h m (yes s) = rw (s, get_or-set_same order (rank_of cells a) a 0 below)
      stands b h m (no n) =
          let earlier : b < a = omega arith in
          get_or-set_other order (rank_of cells a) (rank_of cells b) a 0 (rank-differs d cells e a b earlier l) ∙ f.stands b h earlier

      back : (k b : ℕ) → get_or (set order (rank_of cells a) a) k 0 ≡ b → 1 ≤ b → Dec (k ≡ rank_of cells a) → (b < a + 1) × (rank_of cells b ≡ k)
      back k b s h (yes here) =
          let same : a ≡ b = sym (get_or-set_same order (rank_of cells a) a 0 below) ∙ rw here at s in
          (omega arith, rw (← same) (sym here))
      back k b s h (no n) = let (x, y) = f.back k b (sym (get_or-set_other order (rank_of cells a) k a 0 n) ∙ s) h in (omega arith, y)

  pub filling-done : {order : List ℕ} {a : ℕ} → Filling cells d order a → d.t ≤ a → ByRank cells d order
  filling-done {order} {a} f h = record {
    arranged = record { size = f.size; terminals = λ k l. f.small k; stands = λ b some l. rw (place b some l) (rank_below d cells e b l) };
    place = place;
  }
    where
      place : (b : ℕ) → 1 ≤ b → b < d.t → place_in order b ≡ rank_of cells b
      place b some l =
          place-only order (rank_of cells b) b (omega (arith, rank_below d cells e b l, f.size, small-sizes.terminals)) (f.stands b some (omega arith)) (λ j s. sym (f.back j b s some).1)
