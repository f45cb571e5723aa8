-- Laws of the entries that are taken of two lists. Assumes nothing.
use Rattle.std.specs.Prelude.{Ok, Err, true, false, List, ◌≡◌, ℕ, ◌+◌, ◌≤◌, ltb, get_or}
use Rattle.std.proofs.Math.Path.{refl}
use Rattle.std.proofs.Math.Decide.{ℕ_discrete}
use Rattle.std.proofs.Math.Numerals.{add-one}
use Rattle.std.proofs.Common.{arith}
use borrow.Author.Tests.{eq-eqb, ne_eqb}
use Rattle.number.specs.Number.{number_at}
use Rattle.number.specs.declared.Cursor.{Cursor}
use Rattle.number.specs.declared.cause.Refusal.{Refusal}
use Rattle.items.specs.SpanLaws.{span_at}
use Rattle.pieces.specs.Pieces.{symbols_at, is_shorter, piece_at, entry_count, count_to}

-- ---- the symbols of an entry
module _ (bytes : List ℕ) (place : ℕ) where
  pub symbols-none : {r : Refusal} → number_at bytes place ≡ Err r → 0 ≡ symbols_at bytes place
  unfolding symbols_at
  symbols-none e = rw e

  pub symbols-read : {n : ℕ} {next : Cursor} → number_at bytes place ≡ Ok (n, next) → n ≡ symbols_at bytes place
  unfolding symbols_at
  symbols-read e = rw e

-- ---- one state
module _ (first : List ℕ) (p : ℕ) (second : List ℕ) (q : ℕ) where
  pub second_none : q ≡ 0 → false ≡ is_shorter first p second q
  unfolding is_shorter
  second_none e = rw (eq-eqb q 0 e)

  pub first-none : ¬ (q ≡ 0) → p ≡ 0 → true ≡ is_shorter first p second q
  unfolding is_shorter
  first-none n e = rw (ne_eqb q 0 n, eq-eqb p 0 e)

  pub both-compared : ¬ (q ≡ 0) → ¬ (p ≡ 0) → ltb (symbols_at second q) (symbols_at first p) ≡ is_shorter first p second q
  unfolding is_shorter
  both-compared n m = rw (ne_eqb q 0 n, ne_eqb p 0 m)

  pub second-taken : true ≡ is_shorter first p second q → piece_at first p second q ≡ span_at second q
  unfolding piece_at
  second-taken e = rw (← e)

  pub first_taken : false ≡ is_shorter first p second q → piece_at first p second q ≡ span_at first p
  unfolding piece_at
  first_taken e = rw (← e)

pub count-first : (p q : ℕ) → ¬ (p ≡ 0) → 1 ≡ entry_count p q
unfolding entry_count
count-first p q n = rw (ne_eqb p 0 n)

pub count-second : (p q : ℕ) → p ≡ 0 → ¬ (q ≡ 0) → 1 ≡ entry_count p q
unfolding entry_count
count-second p q e n = rw (eq-eqb p 0 e, ne_eqb q 0 n)

pub count_none : (p q : ℕ) → p ≡ 0 → q ≡ 0 → 0 ≡ entry_count p q
unfolding entry_count
count_none p q e f = rw (eq-eqb p 0 e, eq-eqb q 0 f)

pub count-few : (p q : ℕ) → entry_count p q ≤ 1
count-few p q = go (ℕ_discrete p 0) (ℕ_discrete q 0)
  where
    go : Dec (p ≡ 0) → Dec (q ≡ 0) → entry_count p q ≤ 1
    go (yes e) (yes f) = omega (arith, count_none p q e f)
    go (yes e) (no n) = omega (arith, count-second p q e n)
    go (no n) d = omega (arith, count-first p q n)

-- ---- states in turn
module _ (places others : List ℕ) where
  pub count-zero : count_to places others 0 ≡ 0
  unfolding count_to
  count-zero = refl

  pub count-more : (s : ℕ) → count_to places others (s + 1) ≡ count_to places others s + entry_count (get_or places s 0) (get_or others s 0)
  unfolding count_to
  count-more s = rw add-one
