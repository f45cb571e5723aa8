-- Laws of decimal digits. Assumes nothing.
use Rattle.std.specs.Prelude.{List, [], ◌∷◌, ◌++◌, ◌≡◌, refl, ℕ, zero, suc, ◌+◌, ◌-◌, ◌*◌, ◌/◌, ◌%◌, ◌^◌, ◌≤◌, ◌<◌, length, take, drop, set}
use Rattle.std.proofs.Common.{append_assoc, append-nil, sym, ◌∙◌, ap, pow-suc, arith, lt-ltb, le-ltb, length-append, length-drop, length-set, take_all, drop-cons, drop-set-lt, get_or-set_same}
use Rattle.std.proofs.Math.Decide.{dec_lt}
use Rattle.std.proofs.Math.Seq.{drop-length}
use Rattle.text.specs.Decimal.{digits, decimal}

pub digits-none : (n : ℕ) → digits zero n ≡ []
unfolding digits
digits-none n = refl

pub digits_last : (k n : ℕ) → n < 10 → digits (suc k) n ≡ (48 + n % 10) ∷ []
unfolding digits
digits_last k n h = rw (lt-ltb n 10 h)

pub digits_more : (k n : ℕ) → 10 ≤ n → digits (suc k) n ≡ digits k (n / 10) ++ (48 + n % 10) ∷ []
unfolding digits
digits_more k n h = rw (le-ltb n 10 h)

-- at most k of them
pub digits-most : (k n : ℕ) → length (digits k n) ≤ k
digits-most zero n = omega (arith, ap length (digits-none n))
digits-most (suc k) n = go (dec_lt n 10) (digits-most k (n / 10))
  where
    go : Dec (n < 10) → length (digits k (n / 10)) ≤ k → length (digits (suc k) n) ≤ suc k
    go (yes h) r = rw (digits_last k n h) (omega arith)
    go (no h) r = rw (digits_more k n (omega arith), length-append) (omega arith)

digits-next : (k n b : ℕ) → (10 ≤ n → length (digits k (n / 10)) ≤ b) → 1 ≤ suc b → length (digits (suc k) n) ≤ suc b
digits-next k n b f h = go (dec_lt n 10)
  where
    go : Dec (n < 10) → length (digits (suc k) n) ≤ suc b
    go (yes l) = rw (digits_last k n l) (omega arith)
    go (no l) = rw (digits_more k n (omega arith), length-append) (omega (arith, f (omega arith)))

-- a byte has at most three
pub decimal-byte : (n : ℕ) → n < 256 → length (decimal n) ≤ 3
decimal-byte n h =
    digits-next 19 n 2 (λ l. digits-next 18 (n / 10) 1 (λ m. digits-next 17 (n / 10 / 10) 0 (λ o. absurd (omega arith)) (omega arith)) (omega arith)) (omega arith)

pub decimal-most : (n : ℕ) → length (decimal n) ≤ 20
decimal-most n = digits-most 20 n

-- ---- reading digits back
-- the number of ASCII digits, the highest first, after digits of the number n
unfoldable pub value_after : ℕ → List ℕ → ℕ
value_after n [] = n
value_after n (c ∷ w) = value_after (n * 10 + (c - 48)) w

abbrev pub value : List ℕ → ℕ
value w = value_after 0 w

value-last : (n : ℕ) (w : List ℕ) (c : ℕ) → value_after n (w ++ c ∷ []) ≡ value_after n w * 10 + (c - 48)
unfolding value_after
value-last n [] c = refl
value-last n (b ∷ w) c = value-last (n * 10 + (b - 48)) w c

digits-read : (k n : ℕ) → n < 10 ^ k → value (digits k n) ≡ n
unfolding value_after
digits-read zero n h = rw (digits-none n) (omega arith)
digits-read (suc k) n h = go (dec_lt n 10) (λ l. digits-read k (n / 10) l)
  where
    go : Dec (n < 10) → (n / 10 < 10 ^ k → value (digits k (n / 10)) ≡ n / 10) → value (digits (suc k) n) ≡ n
    go (yes l) r = rw (digits_last k n l) (omega arith)
    go (no l) r =
        let less : n / 10 < 10 ^ k = omega (arith, pow-suc 10 k) in
        rw (digits_more k n (omega arith), value-last, r less) (omega arith)

-- the digits of a number read as that number ..
pub decimal-read : (n : ℕ) → n < 10 ^ 20 → value (decimal n) ≡ n
decimal-read n h = digits-read 20 n h

-- .. so that two numbers of 64 bits have the same digits only if they are equal
pub decimal-one : (m n : ℕ) → m < 2 ^ 64 → n < 2 ^ 64 → decimal m ≡ decimal n → m ≡ n
decimal-one m n g h e = sym (decimal-read m (omega arith)) ∙ ap value e ∙ decimal-read n (omega arith)

-- ---- spelling a number from its last digit on: what is left of it has its digits before those that stand from i on
pub record Spelling (n : ℕ) (text : List ℕ) (i rest : ℕ) : Type 0 where
  pub size : length text ≡ 20
  pub same : decimal n ≡ digits i rest ++ drop i text

-- the digit before i
stored : (text : List ℕ) (i v : ℕ) → length text ≡ 20 → 1 ≤ i → i ≤ 20 → drop (i - 1) (set text (i - 1) v) ≡ v ∷ drop i text
stored text i v e l h =
    let k : suc (i - 1) ≡ i = omega arith in
    drop-cons (set text (i - 1) v) (i - 1) 0 (rw length-set (omega arith))
    ∙ rw (get_or-set_same text (i - 1) v 0 (omega arith), k, drop-set-lt i text (i - 1) v (omega arith)) refl

module _ {n : ℕ} {text : List ℕ} where
  pub spelling-none : length text ≡ 20 → Spelling n text 20 n
  spelling-none e = record { size = e; same = sym (append-nil (decimal n)) ∙ ap (λ (l : List ℕ). decimal n ++ l) (sym (rw e at (drop-length text))) }

  pub spelling-more : {i rest : ℕ} → Spelling n text i rest → 1 ≤ i → i ≤ 20 → 10 ≤ rest → Spelling n (set text (i - 1) (48 + rest % 10)) (i - 1) (rest / 10)
  spelling-more {i} {rest} p l h more =
      let k : suc (i - 1) ≡ i = omega arith in
      let e = rw (← k, digits_more (i - 1) rest more) at p.same in
      record { size = length-set text (i - 1) (48 + rest % 10) ∙ p.size; same = rw (append_assoc, k, ← stored text i (48 + rest % 10) p.size l h) at e }

  pub spelling-last : {i rest : ℕ} → Spelling n text i rest → 1 ≤ i → i ≤ 20 → rest < 10 → drop (i - 1) (set text (i - 1) (48 + rest % 10)) ≡ decimal n
  spelling-last {i} {rest} p l h small =
      let k : suc (i - 1) ≡ i = omega arith in
      let e = rw (← k, digits_last (i - 1) rest small) at p.same in
      stored text i (48 + rest % 10) p.size l h ∙ sym (rw k at e)

  pub spelling-end : {i rest : ℕ} → Spelling n text i rest → i ≤ 0 → drop i text ≡ decimal n
  spelling-end {i} {rest} p h =
      let none : i ≡ 0 = omega arith in
      rw none (sym (rw (none, digits-none) at p.same))

-- the digits, lent as a part of the text
pub spelt-part : (text : List ℕ) (i : ℕ) {word : List ℕ} → length text ≡ 20 → drop i text ≡ word → take (20 - i) (drop i text) ≡ word
spelt-part text i e same = take_all (20 - i) (drop i text) (rw length-drop (omega arith)) ∙ same
