-- One number: how it is written, and what reading it at an offset gives. Assumes nothing.
use Rattle.std.specs.Prelude.{Result, Ok, Err, List, [], ◌∷◌, ℕ, zero, suc, ◌+◌, ◌*◌, ◌/◌, ◌%◌, cond, ◌||◌, ltb, leb, eqb, drop}
use Rattle.number.specs.declared.{Cursor.Cursor, cause.Cause.Cause, cause.Refusal.Refusal}

-- 'A refusal is a number and a place': the cause has the number
abbrev pub refused_at : Cause → ℕ → Refusal
refused_at cause place = record { cause = cause; place = place }

-- what reading a number gives: the number with the offset after it, or the refusal
abbrev pub Number : Type 0
Number = Result (ℕ × Cursor) Refusal

abbrev pub value : ℕ → ℕ → Number
value n next = Ok (n, record { at = next })

abbrev pub refusal : Cause → ℕ → Number
refusal cause place = Err (refused_at cause place)

-- 'Each number is written in groups of seven bits, lowest group first, one group a byte, the byte's top bit set on all but the last.'
-- 'It takes one to three bytes, the fewest possible': at most k bytes
abbrev pub groups : ℕ → ℕ → List ℕ
groups zero n = []
groups (suc k) n = cond (ltb n 128) (n ∷ []) ((n % 128 + 128) ∷ groups k (n / 128))

unfoldable pub written : ℕ → List ℕ
written n = groups 3 n

-- '1 it stops before a due number is complete, with no third byte there'
-- '2 a number is padded, has its third byte's top bit set'; by request 8 'the reader of a single number must take every three-byte value', and so
-- '2 means badly formed only'
-- the third byte, after a and b, of the number at the offset
unfoldable pub third : ℕ → ℕ → ℕ → List ℕ → Number
third at a b [] = refusal Cause.Incomplete at
third at a b (c ∷ rest) =
    cond (eqb c 0 || leb 128 c) (refusal Cause.Malformed at) (value (a % 128 + 128 * (b % 128) + 16384 * c) (at + 3))

-- the second byte, after a
unfoldable pub second : ℕ → ℕ → List ℕ → Number
second at a [] = refusal Cause.Incomplete at
second at a (b ∷ rest) = cond (eqb b 0) (refusal Cause.Malformed at) (cond (ltb b 128) (value (a % 128 + 128 * b) (at + 2)) (third at a b rest))

-- the first byte
unfoldable pub first : ℕ → List ℕ → Number
first at [] = refusal Cause.Incomplete at
first at (a ∷ rest) = cond (ltb a 128) (value a (at + 1)) (second at a rest)

-- the number at an offset of the bytes, with the offset after it, or the refusal, whose place is 'the offset of the number's first byte'
unfoldable pub number_at : List ℕ → ℕ → Number
number_at bytes at = first at (drop at bytes)
