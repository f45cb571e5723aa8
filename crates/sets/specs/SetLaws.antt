-- Laws of sets: how they grow, which bits they have, and that the count of the bits is the number of members. Assumes nothing.
use Rattle.std.specs.Prelude.{Bool, true, false, cond, ◌||◌, ◌≡◌, refl, ℕ, zero, suc, ◌+◌, ◌-◌, ◌*◌, ◌/◌, ◌%◌, ◌^◌, ◌<◌, max, eqb}
use Rattle.std.proofs.Common.{sym, ◌∙◌, ap, ap₂, one-mul, zero-mul, zero-add, add-zero, add_comm, mul_comm, mul_assoc, suc-mul, pow-suc, div-add-mod', mod-lt, not-suc-le-zero, add-one, arith, eq-eqb, ne_eqb, pow_pos, pow-add}
use Rattle.std.proofs.Math.Nat.{two-pow-succ, div-eq_of_lt, add-mul-div_right, add-mul-mod_self_right, zero-div, div_self}
use Rattle.std.proofs.Math.Decide.{dec_lt, ℕ_discrete}
use Rattle.std.specs.Int.Bits.{bit_or, or_shifted_r, or_step, or_zero_r}
use Rattle.std.proofs.lemmas.Nat.{or_block, or_shr, ones_cat}
use Rattle.std.proofs.Math.Pow.{pow-lt}
use Rattle.std.specs.Int.Count.{ones}
use Rattle.sets.specs.Set.{set_of, count_of}
use Rattle.sets.specs.Bits.{member}

-- tests that say the same of each other are the same
pub both : (a b : Bool) → (a ≡ true → b ≡ true) → (b ≡ true → a ≡ true) → a ≡ b
both true b f g = sym (f refl)
both false true f g = g refl
both false false f g = refl

-- a member counts as one block of bits, above those below it
one_of : (b : Bool) (p : ℕ) → cond b p 0 ≡ cond b 1 0 * p
one_of true p = sym (one-mul p)
one_of false p = sym (zero-mul p)

-- the members below k are a number below 2 ^ k
pub set_below : (P : ℕ → Bool) (k : ℕ) → set_of P k < 2 ^ k
unfolding set_of
set_below P zero = omega arith
set_below P (suc k) = grown (P k) (set_below P k)
  where
    grown : (b : Bool) → set_of P k < 2 ^ k → cond b (2 ^ k) 0 + set_of P k < 2 ^ suc k
    grown true h = omega (arith, two-pow-succ k)
    grown false h = omega (arith, two-pow-succ k)

-- one terminal more: it is put in, where only those below it are, or left out
pub set_more : (P : ℕ → Bool) (k : ℕ) → cond (P k) (bit_or (set_of P k) (2 ^ k)) (set_of P k) ≡ set_of P (k + 1)
unfolding set_of
set_more P k = rw add-one (grown (P k))
  where
    grown : (b : Bool) → cond b (bit_or (set_of P k) (2 ^ k)) (set_of P k) ≡ cond b (2 ^ k) 0 + set_of P k
    grown true = rw one-mul at (or_shifted_r 1 k (set_of P k) (set_below P k))
    grown false = rw zero-add

-- sets of the same members are the same
pub set_same : (P Q : ℕ → Bool) (k : ℕ) → ((z : ℕ) → z < k → P z ≡ Q z) → set_of P k ≡ set_of Q k
unfolding set_of
set_same P Q zero e = refl
set_same P Q (suc k) e = ap₂ (λ (b : Bool) (n : ℕ). cond b (2 ^ k) 0 + n) (e k (omega arith)) (set_same P Q k (λ z h. e z (omega arith)))

bit-count : (b : Bool) → ones (cond b 1 0) ≡ cond b 1 0
unfolding ones
bit-count true = refl
bit-count false = refl

-- the count of the bits is the number of members
pub set-count : (P : ℕ → Bool) (k : ℕ) → ones (set_of P k) ≡ count_of P k
unfolding set_of count_of ones
set-count P zero = refl
set-count P (suc k) = rw (one_of (P k) (2 ^ k), ones_cat k (cond (P k) 1 0) (set_of P k) (set_below P k), bit-count (P k), set-count P k)

-- ---- members
-- what stands above bit z, and below it
split_at : (n z : ℕ) → n ≡ n / 2 ^ z * 2 ^ z + n % 2 ^ z
split_at n z = sym (div-add-mod' n (2 ^ z))

-- putting in bit z
or-one : (a : ℕ) → bit_or a 1 ≡ a / 2 * 2 + 1
or-one a = or_step a 1 ∙ rw or_zero_r (omega arith)

-- it changes nothing exactly where the bit is there
pub or-member : (n z : ℕ) → eqb (bit_or n (2 ^ z)) n ≡ member n z
or-member n z = go (ℕ_discrete (n / 2 ^ z % 2) 1)
  where
    put : bit_or n (2 ^ z) ≡ (n / 2 ^ z / 2 * 2 + 1) * 2 ^ z + n % 2 ^ z
    put =
        ap₂ bit_or (split_at n z) (sym (add-zero (1 * 2 ^ z) ∙ one-mul (2 ^ z)))
        ∙ or_block z (n / 2 ^ z) 1 (n % 2 ^ z) 0 (mod-lt n (pow_pos z)) (pow_pos z)
        ∙ ap₂ (λ (a b : ℕ). a * 2 ^ z + b) (or-one (n / 2 ^ z)) (or_zero_r (n % 2 ^ z))

    go : Dec (n / 2 ^ z % 2 ≡ 1) → eqb (bit_or n (2 ^ z)) n ≡ member n z
    go (yes h) =
        let same : n / 2 ^ z / 2 * 2 + 1 ≡ n / 2 ^ z = omega arith in
        eq-eqb _ _ (put ∙ ap (λ (a : ℕ). a * 2 ^ z + n % 2 ^ z) same ∙ sym (split_at n z)) ∙ sym (eq-eqb _ 1 h)
    go (no h) =
        let more : n / 2 ^ z / 2 * 2 + 1 ≡ suc (n / 2 ^ z) = omega arith in
        let grown : bit_or n (2 ^ z) ≡ suc (n / 2 ^ z) * 2 ^ z + n % 2 ^ z = put ∙ ap (λ (a : ℕ). a * 2 ^ z + n % 2 ^ z) more in
        ne_eqb (bit_or n (2 ^ z)) n (λ e. omega (arith, e, grown, suc-mul (n / 2 ^ z) (2 ^ z), split_at n z, pow_pos z)) ∙ sym (ne_eqb _ 1 h)

-- what stands at bit k and above it does not change a bit below it
above : (c m z s : ℕ) → (c * 2 ^ (z + suc m) + s) / 2 ^ z % 2 ≡ s / 2 ^ z % 2
above c m z s =
    let even : c * 2 ^ (z + suc m) + s ≡ s + (c * 2 ^ m * 2) * 2 ^ z =
    ap (λ (x : ℕ). c * x + s) (pow-add 2 z (suc m) ∙ mul_comm (2 ^ z) (2 ^ suc m) ∙ ap (λ (x : ℕ). x * 2 ^ z) (pow-suc 2 m))
    ∙ ap (λ (x : ℕ). x + s) (sym (mul_assoc c (2 ^ m * 2) (2 ^ z)) ∙ ap (λ (x : ℕ). x * 2 ^ z) (sym (mul_assoc c (2 ^ m) 2)))
    ∙ add_comm _ s in
    ap (λ (x : ℕ). x / 2 ^ z % 2) even ∙ ap (λ (x : ℕ). x % 2) (add-mul-div_right s (c * 2 ^ m * 2) (pow_pos z)) ∙ add-mul-mod_self_right (s / 2 ^ z) (c * 2 ^ m) 2

-- bit k of what is put above the bits below it
top : (c k s : ℕ) → s < 2 ^ k → (c * 2 ^ k + s) / 2 ^ k ≡ c
top c k s h = ap (λ (x : ℕ). x / 2 ^ k) (add_comm (c * 2 ^ k) s) ∙ add-mul-div_right s c (pow_pos k) ∙ ap (λ (x : ℕ). x + c) (div-eq_of_lt h) ∙ zero-add c

-- 'bit z for terminal z'
pub set-member : (P : ℕ → Bool) (k z : ℕ) → z < k → member (set_of P k) z ≡ P z
unfolding set_of
set-member P zero z h = absurd (not-suc-le-zero h)
set-member P (suc k) z h = rw (one_of (P k) (2 ^ k)) (go (ℕ_discrete z k) (λ l. set-member P k z l))
  where
    bit : (b : Bool) → eqb (cond b 1 0 % 2) 1 ≡ b
    bit true = refl
    bit false = refl

    go : Dec (z ≡ k) → (z < k → member (set_of P k) z ≡ P z) → member (cond (P k) 1 0 * 2 ^ k + set_of P k) z ≡ P z
    go (yes e) r = rw (e, top (cond (P k) 1 0) k (set_of P k) (set_below P k)) (bit (P k))
    go (no n) r =
        let m : k ≡ z + suc (k - suc z) = omega arith in
        let same : (cond (P k) 1 0 * 2 ^ k + set_of P k) / 2 ^ z % 2 ≡ set_of P k / 2 ^ z % 2 =
        ap (λ (x : ℕ). (cond (P k) 1 0 * 2 ^ x + set_of P k) / 2 ^ z % 2) m ∙ above (cond (P k) 1 0) (k - suc z) z (set_of P k) in
        ap (λ (x : ℕ). eqb x 1) same ∙ r (omega arith)

-- ---- one more member, wherever it stands
pub member-none : (z : ℕ) → member 0 z ≡ false
member-none z = rw (zero-div (2 ^ z))

-- a number of two values, with the greater of it and none or one
larger : (x : ℕ) → x < 2 → (b : Bool) → eqb (max x (cond b 1 0)) 1 ≡ (b || eqb x 1)
larger zero h true = refl
larger zero h false = refl
larger (suc zero) h true = refl
larger (suc zero) h false = refl
larger (suc (suc x)) h b = absurd (omega arith)

-- bit w of the set of z alone
alone : (z w : ℕ) → 2 ^ z / 2 ^ w % 2 ≡ cond (eqb w z) 1 0
alone z w = go (ℕ_discrete w z) (dec_lt w z)
  where
    go : Dec (w ≡ z) → Dec (w < z) → 2 ^ z / 2 ^ w % 2 ≡ cond (eqb w z) 1 0
    go (yes e) d = rw (e, div_self (pow_pos z), eq-eqb z z refl)
    go (no n) (yes l) =
        let m : z ≡ w + suc (z - suc w) = omega arith in
        let bit : 2 ^ (w + suc (z - suc w)) / 2 ^ w % 2 ≡ 0 = rw (one-mul, add-zero, zero-div (2 ^ w)) at (above 1 (z - suc w) w 0) in
        rw (ne_eqb w z n) (ap (λ (k : ℕ). 2 ^ k / 2 ^ w % 2) m ∙ bit)
    go (no n) (no l) = rw (ne_eqb w z n, div-eq_of_lt (pow-lt {i = z} {j = w} (omega arith)))

pub member-put : (n z w : ℕ) → member (bit_or n (2 ^ z)) w ≡ (eqb w z || member n w)
member-put n z w =
    let odd : (a b : ℕ) → bit_or a b % 2 ≡ max (a % 2) (b % 2) = λ a b. rw (or_step a b) (omega arith) in
    rw (or_shr n (2 ^ z) w, odd, alone z w) (larger (n / 2 ^ w % 2) (mod-lt (n / 2 ^ w) (omega arith)) (eqb w z))
