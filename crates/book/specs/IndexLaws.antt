-- Products and indices in mixed radix: a digit a below A before a digit b below B stands at a * B + b. Assumes nothing.
use Rattle.std.specs.Prelude.{◌≡◌, ℕ, suc, ◌+◌, ◌*◌, ◌/◌, ◌%◌, ◌≤◌, ◌<◌}
use Rattle.std.proofs.Common.{ap, mul-le-mul, mul-le-mul_right, suc-mul, mul-zero, mod-lt, div-lt_iff_lt-mul, div-add-mod', arith}
use Rattle.std.proofs.Math.Decide.{dec_lt}

-- a product of small numbers is small; with numerals for A and B the bound computes
pub mul_small : (a A b B : ℕ) → a ≤ A → b ≤ B → a * b ≤ A * B
mul_small a A b B ha hb = mul-le-mul ha hb

-- a whole row of B fits below A * B
pub row_below : (A B a : ℕ) → a < A → a * B + B ≤ A * B
row_below A B a ha =
    let step : suc a * B ≤ A * B = mul-le-mul_right B (omega arith) in
    omega (arith, suc-mul a B)

pub index_below : (A B a b : ℕ) → a < A → b < B → a * B + b < A * B
index_below A B a b ha hb = omega (arith, row_below A B a ha)

-- the first digit decides the order
pub index-order : (B a a' b b' : ℕ) → a < a' → b < B → a * B + b < a' * B + b'
index-order B a a' b b' h hb = omega (arith, row_below a' B a h)

-- equal indices have equal digits
pub index-first : (B a a' b b' : ℕ) → b < B → b' < B → a * B + b ≡ a' * B + b' → a ≡ a'
index-first B a a' b b' hb hb' e = go (dec_lt a a') (dec_lt a' a)
  where
    go : Dec (a < a') → Dec (a' < a) → a ≡ a'
    go (yes h) d = absurd (omega (arith, index-order B a a' b b' h hb))
    go (no n) (yes h) = absurd (omega (arith, index-order B a' a b' b h hb'))
    go (no n) (no m) = omega arith

pub index-second : (B a a' b b' : ℕ) → b < B → b' < B → a * B + b ≡ a' * B + b' → b ≡ b'
index-second B a a' b b' hb hb' e =
    let f : a * B ≡ a' * B = ap (λ (n : ℕ). n * B) (index-first B a a' b b' hb hb' e) in omega arith

-- an index has its digits
pub record Digits (A B i : ℕ) : Type 0 where
  pub high : i / B < A
  pub low : i % B < B
  pub same : i / B * B + i % B ≡ i

pub index-split : (A B i : ℕ) → i < A * B → Digits A B i
index-split A B i h = go (dec_lt 0 B)
  where
    go : Dec (0 < B) → Digits A B i
    go (yes some) = record { high = (div-lt_iff_lt-mul some).1 h; low = mod-lt i some; same = div-add-mod' i B }
    go (no none) = let e : B ≡ 0 = omega arith in absurd (omega (arith, rw e at h, mul-zero A))

pub index-digits : (B a b : ℕ) → b < B → ((a * B + b) / B ≡ a) × ((a * B + b) % B ≡ b)
index-digits B a b h =
    let i = a * B + b in
    let low : i % B < B = mod-lt i (omega arith) in
    (index-first B (i / B) a (i % B) b low h (div-add-mod' i B), index-second B (i / B) a (i % B) b low h (div-add-mod' i B))
