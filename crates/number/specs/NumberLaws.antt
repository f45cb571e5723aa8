-- Laws of one number: how many bytes it is written in, that reading and writing undo each other, and what holds of one that was read. Assumes nothing.
use Rattle.std.specs.Prelude.{Ok, Err, Bool, true, false, cond, ◌||◌, ◌≡◌, refl, ℕ, zero, suc, ◌+◌, ◌*◌, ◌/◌, ◌%◌, ◌≤◌, ◌<◌, ltb, leb, eqb, length, get_or, drop}
use Rattle.std.proofs.Common.{ap, sym, ◌∙◌, add-one, arith, length-drop, drop-cons, get_or-drop, add-zero}
use mathlib.Core.List.{List, [], ◌∷◌, ◌++◌}
use Rattle.std.proofs.Math.Decide.{dec_lt, ℕ_discrete}
use borrow.Author.Tests.{lt-ltb, le-ltb, le-leb, lt-leb, ne_eqb}
use Rattle.number.specs.TestLaws.{tests}
use Rattle.number.specs.Number.{Number, groups, written, number_at, first, second, third, value, refusal}
use Rattle.number.specs.declared.Cursor.{Cursor}
use Rattle.number.specs.declared.cause.Cause.{Cause}
use Rattle.number.specs.declared.cause.Refusal.{Refusal}

-- the byte at an offset stands first of those from there on
pub byte_at : (bytes : List ℕ) (i : ℕ) → i < length bytes → drop i bytes ≡ get_or bytes i 0 ∷ drop (i + 1) bytes
byte_at bytes i h = rw (add-one, drop-cons bytes i 0)

-- ---- the bytes of a number
pub written_one : (n : ℕ) → n < 128 → written n ≡ n ∷ []
unfolding written
written_one n h = simp tests

pub written-two : (n : ℕ) → 128 ≤ n → n < 16384 → written n ≡ (n % 128 + 128) ∷ (n / 128) ∷ []
unfolding written
written-two n g h = rw (le-ltb n 128 g, lt-ltb (n / 128) 128 (omega arith))

pub written-three : (n : ℕ) → 16384 ≤ n → n < 2097152 → written n ≡ (n % 128 + 128) ∷ (n / 128 % 128 + 128) ∷ (n / 128 / 128) ∷ []
unfolding written
written-three n g h = rw (le-ltb n 128 (omega arith), le-ltb (n / 128) 128 (omega arith), lt-ltb (n / 128 / 128) 128 (omega arith))

pub written-some : (n : ℕ) → 1 ≤ length (written n)
unfolding written
written-some n = go (dec_lt n 128)
  where
    go : Dec (n < 128) → 1 ≤ length (written n)
    go (yes h) = simp tests (omega arith)
    go (no h) = rw (le-ltb n 128 (omega arith)) (omega arith)

-- the lowest three groups of what is larger
pub written-long : (n : ℕ) → 16384 ≤ n → length (written n) ≡ 3
unfolding written
written-long n g = rw (le-ltb n 128 (omega arith), le-ltb (n / 128) 128 (omega arith)) (last (dec_lt (n / 128 / 128) 128))
  where
    last : Dec (n / 128 / 128 < 128) → suc (suc (length (groups 1 (n / 128 / 128)))) ≡ 3
    last (yes h) = simp tests
    last (no h) = simp tests

pub written-few : (n : ℕ) → n < 16384 → length (written n) ≤ 2
written-few n h = go (dec_lt n 128)
  where
    go : Dec (n < 128) → length (written n) ≤ 2
    go (yes l) = rw (written_one n l) (omega arith)
    go (no l) = rw (written-two n (omega arith) h) (omega arith)

-- at most k groups
groups-most : (k n : ℕ) → length (groups k n) ≤ k
groups-most zero n = omega arith
groups-most (suc k) n = go (dec_lt n 128) (groups-most k (n / 128))
  where
    go : Dec (n < 128) → length (groups k (n / 128)) ≤ k → length (groups (suc k) n) ≤ suc k
    go (yes h) r = simp tests (omega arith)
    go (no h) r = rw (le-ltb n 128 (omega arith)) (omega arith)

pub written-most : (n : ℕ) → length (written n) ≤ 3
unfolding written
written-most n = groups-most 3 n

-- ---- what is written is read
pub first-written : (at n : ℕ) (rest : List ℕ) → n < 2097152 → first at (written n ++ rest) ≡ value n (at + length (written n))
unfolding first second third
first-written at n rest h = go (dec_lt n 128) (dec_lt n 16384)
  where
    go : Dec (n < 128) → Dec (n < 16384) → first at (written n ++ rest) ≡ value n (at + length (written n))
    go (yes s) d = rw (written_one n s, lt-ltb n 128 s)
    go (no s) (yes t) =
        let e : (n % 128 + 128) % 128 + 128 * (n / 128) ≡ n = omega arith in
        rw (written-two n (omega arith) t, le-ltb (n % 128 + 128) 128 (omega arith), ne_eqb (n / 128) 0 (omega arith), lt-ltb (n / 128) 128 (omega arith), e)
    go (no s) (no t) =
        let e : (n % 128 + 128) % 128 + 128 * ((n / 128 % 128 + 128) % 128) + 16384 * (n / 128 / 128) ≡ n = omega arith in
        rw (written-three n (omega arith) h, le-ltb (n % 128 + 128) 128 (omega arith), ne_eqb (n / 128 % 128 + 128) 0 (omega arith), le-ltb (n / 128 % 128 + 128) 128 (omega arith), ne_eqb (n / 128 / 128) 0 (omega arith), lt-leb 128 (n / 128 / 128) (omega arith), e)

-- ---- what is read is written
-- the elements of a slice of bytes
abbrev pub Bytes : List ℕ → Type 0
Bytes s = (i : ℕ) → get_or s i 0 < 256

-- n stands at the front of s, and ends before the offset next
pub record NumberStands (at : ℕ) (s : List ℕ) (n next : ℕ) : Type 0 where
  pub rest : List ℕ
  pub whole : s ≡ written n ++ rest
  pub after : next ≡ at + length (written n)

pub value-is : (n k m next : ℕ) → value n k ≡ value m next → (n ≡ m) × (k ≡ next)
value-is n k m next e =
    let p : ◌≡◌ {A = ℕ × Cursor} (n, record { at = k }) (m, record { at = next }) = cc in
    (ap (λ (r : ℕ × Cursor). r.0) p, ap (λ (r : ℕ × Cursor). r.1.at) p)

pub refused-not-value : (r : Refusal) (m next : ℕ) → Err r ≡ value m next → ⊥
refused-not-value r m next e = let z : ◌≡◌ {A = ℕ} 0 1 = cc in omega arith

-- n is read, and its bytes are bs
stands : (at : ℕ) (bs rest : List ℕ) (n k m next : ℕ) → value n k ≡ value m next → written n ≡ bs → k ≡ at + length bs
    → NumberStands at (bs ++ rest) m next
stands at bs rest n k m next e w f =
    let (i, j) = value-is n k m next e in
    record { rest = rest; whole = rw (← i, w); after = rw (← i, w, ← j) f }

third-stands : (at a b : ℕ) (s : List ℕ) (m next : ℕ) → 128 ≤ a → a < 256 → 128 ≤ b → b < 256 → third at a b s ≡ value m next → NumberStands at (a ∷ b ∷ s) m next
unfolding third
third-stands at a b [] m next ha la hb lb e = absurd (refused-not-value _ m next e)
third-stands at a b (c ∷ s) m next ha la hb lb e = go (ℕ_discrete c 0) (dec_lt c 128)
  where
    go : Dec (c ≡ 0) → Dec (c < 128) → NumberStands at (a ∷ b ∷ c ∷ s) m next
    go (yes z) d = absurd (refused-not-value _ m next (simp tests at e))
    go (no z) (no d) = absurd (refused-not-value _ m next (rw (ne_eqb c 0 z, le-leb 128 c (omega arith)) at e))
    go (no z) (yes d) =
        let n : ℕ = a % 128 + 128 * (b % 128) + 16384 * c in
        let i : n % 128 + 128 ≡ a = omega arith in
        let h : n / 128 ≡ b % 128 + 128 * c = omega arith in
        let j : n / 128 % 128 + 128 ≡ b = rw h (omega arith) in
        let k : n / 128 / 128 ≡ c = rw h (omega arith) in
        stands at (a ∷ b ∷ c ∷ []) s n (at + 3) m next
        (rw (ne_eqb c 0 z, lt-leb 128 c d) at e)
        (rw (written-three n (omega arith) (omega arith), i, j, k))
        refl

second-stands : (at a : ℕ) (s : List ℕ) (m next : ℕ) → 128 ≤ a → a < 256 → Bytes s → second at a s ≡ value m next → NumberStands at (a ∷ s) m next
unfolding second
second-stands at a [] m next ha la bytes e = absurd (refused-not-value _ m next e)
second-stands at a (b ∷ s) m next ha la bytes e = go (ℕ_discrete b 0) (dec_lt b 128)
  where
    go : Dec (b ≡ 0) → Dec (b < 128) → NumberStands at (a ∷ b ∷ s) m next
    go (yes z) d = absurd (refused-not-value _ m next (simp tests at e))
    go (no z) (no d) = third-stands at a b s m next ha la (omega arith) (bytes 0) (rw (ne_eqb b 0 z, le-ltb b 128 (omega arith)) at e)
    go (no z) (yes d) =
        let n : ℕ = a % 128 + 128 * b in
        let i : n % 128 + 128 ≡ a = omega arith in
        let j : n / 128 ≡ b = omega arith in
        stands at (a ∷ b ∷ []) s n (at + 2) m next
        (simp tests at e)
        (rw (written-two n (omega arith) (omega arith), i, j))
        refl

pub first-stands : (at : ℕ) (s : List ℕ) (m next : ℕ) → Bytes s → first at s ≡ value m next → NumberStands at s m next
unfolding first
first-stands at [] m next bytes e = absurd (refused-not-value _ m next e)
first-stands at (a ∷ s) m next bytes e = go (dec_lt a 128)
  where
    go : Dec (a < 128) → NumberStands at (a ∷ s) m next
    go (no d) = second-stands at a s m next (omega arith) (bytes 0) (λ i. bytes (suc i)) (rw (le-ltb a 128 (omega arith)) at e)
    go (yes d) = stands at (a ∷ []) s a (at + 1) m next (simp tests at e) (written_one a d) refl

-- ---- a number that was read ends after the offset where it begins
abbrev Onward : ℕ → Number → Type 0
Onward at (Ok (v, next)) = at < next.at
Onward at (Err r) = Unit {0}

onward-cond : (at : ℕ) (b : Bool) (x y : Number) → Onward at x → Onward at y → Onward at (cond b x y)
onward-cond at true x y p q = p
onward-cond at false x y p q = q

third-onward : (at a b : ℕ) (s : List ℕ) → Onward at (third at a b s)
unfolding third
third-onward at a b [] = tt
third-onward at a b (c ∷ s) =
    let n = a % 128 + 128 * (b % 128) + 16384 * c in
    onward-cond at (eqb c 0 || leb 128 c) (refusal Cause.Malformed at) (value n (at + 3)) tt (omega arith)

second-onward : (at a : ℕ) (s : List ℕ) → Onward at (second at a s)
unfolding second
second-onward at a [] = tt
second-onward at a (b ∷ s) =
    let more = onward-cond at (ltb b 128) (value (a % 128 + 128 * b) (at + 2)) (third at a b s) (omega arith) (third-onward at a b s) in
    onward-cond at (eqb b 0) (refusal Cause.Malformed at) (cond (ltb b 128) (value (a % 128 + 128 * b) (at + 2)) (third at a b s)) tt more

first-onward : (at : ℕ) (s : List ℕ) → Onward at (first at s)
unfolding first
first-onward at [] = tt
first-onward at (a ∷ s) = onward-cond at (ltb a 128) (value a (at + 1)) (second at a s) (omega arith) (second-onward at a s)

pub number-onward : (bytes : List ℕ) (at v : ℕ) (next : Cursor) → number_at bytes at ≡ Ok (v, next) → at < next.at
unfolding number_at
number-onward bytes at v next e = rw e at (first-onward at (drop at bytes))

-- ---- whatever is read: what holds of both refusals, and of a number of one, two and three bytes
module _ (at : ℕ) (P : Number → Type 0) (stops : P (refusal Cause.Incomplete at)) (badly : P (refusal Cause.Malformed at)) where
  third-each : (a b : ℕ) (s : List ℕ) → ((v : ℕ) → 1 ≤ length s → 128 ≤ v → v < 2097152 → P (value v (at + 3))) → P (third at a b s)
  unfolding third
  third-each a b [] three = stops
  third-each a b (c ∷ s) three = go (ℕ_discrete c 0) (dec_lt c 128)
    where
      go : Dec (c ≡ 0) → Dec (c < 128) → P (third at a b (c ∷ s))
      go (yes z) d = simp tests badly
      go (no z) (no d) = rw (ne_eqb c 0 z, le-leb 128 c (omega arith)) badly
      go (no z) (yes d) = rw (ne_eqb c 0 z, lt-leb 128 c d) (three (a % 128 + 128 * (b % 128) + 16384 * c) (omega arith) (omega arith) (omega arith))

  second-each : (a : ℕ) (s : List ℕ) → ((v : ℕ) → 1 ≤ length s → 128 ≤ v → v < 2097152 → P (value v (at + 2)))
      → ((v : ℕ) → 2 ≤ length s → 128 ≤ v → v < 2097152 → P (value v (at + 3))) → P (second at a s)
  unfolding second
  second-each a [] two three = stops
  second-each a (b ∷ s) two three = go (ℕ_discrete b 0) (dec_lt b 128)
    where
      go : Dec (b ≡ 0) → Dec (b < 128) → P (second at a (b ∷ s))
      go (yes z) d = simp tests badly
      go (no z) (no d) = rw (ne_eqb b 0 z, le-ltb b 128 (omega arith)) (third-each a b s (λ v l. three v (omega arith)))
      go (no z) (yes d) = rw (ne_eqb b 0 z, lt-ltb b 128 d) (two (a % 128 + 128 * b) (omega arith) (omega arith) (omega arith))

  pub first-each : (s : List ℕ) → (1 ≤ length s → get_or s 0 0 < 128 → P (value (get_or s 0 0) (at + 1)))
      → ((v : ℕ) → 2 ≤ length s → 128 ≤ v → v < 2097152 → P (value v (at + 2)))
      → ((v : ℕ) → 3 ≤ length s → 128 ≤ v → v < 2097152 → P (value v (at + 3))) → P (first at s)
  unfolding first
  first-each [] one two three = stops
  first-each (a ∷ s) one two three = go (dec_lt a 128)
    where
      go : Dec (a < 128) → P (first at (a ∷ s))
      go (yes d) = rw (lt-ltb a 128 d) (one (omega arith) d)
      go (no d) = rw (le-ltb a 128 (omega arith)) (second-each a s (λ v l. two v (omega arith)) (λ v l. three v (omega arith)))

-- ---- a number that was read
pub record NumberRead (bytes : List ℕ) (at v next : ℕ) : Type 0 where
  pub onward : at < next
  pub within : next ≤ length bytes
  pub small : v < 2097152
  pub one : v < 128 → (v ≡ get_or bytes at 0) × (next ≡ at + 1)

pub number_read : (bytes : List ℕ) (at v : ℕ) (next : Cursor) → number_at bytes at ≡ Ok (v, next) → NumberRead bytes at v next.at
unfolding number_at
number_read bytes at v next e =
    first-each at (λ n. n ≡ Ok (v, next) → NumberRead bytes at v next.at)
    (λ f. absurd (refused-not-value _ v next.at f))
    (λ f. absurd (refused-not-value _ v next.at f))
    (drop at bytes)
    (λ l d f. single l d (value-is _ _ v next.at f))
    (λ w l g h f. several 2 w (omega arith) l g h (value-is _ _ v next.at f))
    (λ w l g h f. several 3 w (omega arith) l g h (value-is _ _ v next.at f))
    e
  where
    inside : (k : ℕ) → 1 ≤ k → k ≤ length (drop at bytes) → at + k ≤ length bytes
    inside k some l = omega (arith, length-drop at bytes)

    single : 1 ≤ length (drop at bytes) → get_or (drop at bytes) 0 0 < 128 → (get_or (drop at bytes) 0 0 ≡ v) × (at + 1 ≡ next.at) → NumberRead bytes at v next.at
    single l d (i, j) = record { onward = omega arith; within = omega (arith, inside 1 (omega arith) l); small = omega arith; one = λ low. (sym i ∙ get_or-drop at bytes 0 0 ∙ rw add-zero, sym j) }

    several : (k w : ℕ) → 1 ≤ k → k ≤ length (drop at bytes) → 128 ≤ w → w < 2097152 → (w ≡ v) × (at + k ≡ next.at) → NumberRead bytes at v next.at
    several k w some l g h (i, j) = record { onward = omega arith; within = omega (arith, inside k some l); small = omega arith; one = λ low. absurd (omega arith) }
