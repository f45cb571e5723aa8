-- Laws of the cost to go over a stack: where a reduction breaks, and one layer after the other. Assumes nothing.
use Rattle.std.specs.Prelude.{Bool, true, false, cond, ◌≡◌, refl, ℕ, suc, ◌+◌, ◌-◌, ◌≤◌, ◌<◌, min, eqb, length, get_or, take, drop}
use mathlib.Core.List.{List, [], ◌∷◌, ◌++◌, reverse, reverse-cons}
use Rattle.std.proofs.Common.{◌∙◌, add-one, arith, length-take, drop_of_length-le, drop-cons, get_or-take, length-take-le}
use Rattle.std.proofs.Math.Decide.{dec_lt}
use Rattle.std.proofs.lemmas.List.{length-reverse, get_or_at}
use Rattle.std.proofs.Math.ListN.{get_or-append}
use Rattle.book.specs.Tables.{Tables}
use Rattle.walk.specs.Ends.{bare, to_go}

-- a list from its end
pub get_d_reverse : (l : List ℕ) (j k : ℕ) → j + k + 1 ≡ length l → get_or (reverse l) j 0 ≡ get_or l k 0
get_d_reverse [] j k e = absurd (omega arith)
get_d_reverse (x ∷ l) j k e = rw (reverse-cons x l) (go k e (dec_lt j (length l)) (λ k' f. get_d_reverse l j k' f))
  where
    go : (k : ℕ) → j + k + 1 ≡ suc (length l) → Dec (j < length l) → ((k' : ℕ) → j + k' + 1 ≡ length l → get_or (reverse l) j 0 ≡ get_or l k' 0)
        → get_or (reverse l ++ (x ∷ [])) j 0 ≡ get_or (x ∷ l) k 0
    go k e (yes h) rest =
        let f : k ≡ suc (k - 1) = omega arith in
        rw (get_or-append (reverse l) (x ∷ []) 0 j (rw length-reverse h), f) (rest (k - 1) (omega arith))
    go k e (no h) rest =
        let f : k ≡ 0 = omega arith in
        rw f (get_or_at (reverse l) x [] 0 j (length-reverse l ∙ omega arith))

-- the first `kept` states of a stack, with n taken off
module _ (B : Tables) (X : ℕ) (stack : List ℕ) (kept n : ℕ) where
  -- no state is left
  pub bare-bottom : kept ≤ n → bare B X (drop n (reverse (take kept stack))) ≡ true
  bare-bottom h =
      let most : length (reverse (take kept stack)) ≤ n = omega (arith, length-reverse (take kept stack), length-take kept stack) in
      rw (drop_of_length-le (reverse (take kept stack)) most)

  -- .. or it is this one
  pub bare-state : n < kept → kept ≤ length stack → bare B X (drop n (reverse (take kept stack))) ≡ eqb (B.goto (get_or stack (kept - 1 - n) 0) X) 0
  bare-state h fits =
      let size = length-take-le kept stack fits in
      let here : get_or (reverse (take kept stack)) n 0 ≡ get_or stack (kept - 1 - n) 0 = get_d_reverse (take kept stack) n (kept - 1 - n) (omega arith) ∙ get_or-take kept stack (kept - 1 - n) 0 (omega arith) in
      rw (drop-cons (reverse (take kept stack)) n 0 (omega (arith, length-reverse (take kept stack))), here)

-- a cost, or the lesser v where it may be taken
pub lesser-same : (b : Bool) (v cost : ℕ) → cost ≤ v → cost ≡ cond b (min v cost) cost
lesser-same true v cost h = omega arith
lesser-same false v cost h = refl

pub lesser-taken : {b : Bool} (v cost : ℕ) → v < cost → b ≡ true → v ≡ cond b (min v cost) cost
lesser-taken v cost h e = rw e (omega arith)

pub lesser-left : {b : Bool} (v cost : ℕ) → b ≡ false → cost ≡ cond b (min v cost) cost
lesser-left v cost e = rw e

-- one layer more
pub to-go-more : (B : Tables) (X n : ℕ) (G : ℕ → ℕ → ℕ) (L : ℕ → ℕ → ℕ → ℕ) (m : ℕ) (st : List ℕ) (q a : ℕ) {cost r : ℕ} → cost ≡ to_go B X n G L m st q a
    → r ≡ cond (bare B X (drop (n - 1 - m) st)) (min (L m q a) cost) cost → r ≡ to_go B X n G L (m + 1) st q a
unfolding to_go
to-go-more B X n G L m st q a e f = let down : n - suc m ≡ n - 1 - m = omega arith in rw (add-one, down, ← e) f
