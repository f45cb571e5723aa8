-- Sets of terminals as numbers. Assumes nothing.
use Rattle.std.specs.Prelude.{Bool, cond, ℕ, zero, suc, ◌+◌, ◌^◌}

-- 'a 32-bit set, bit z for terminal z': those of the first k terminals for which P holds
unfoldable pub set_of : (ℕ → Bool) → ℕ → ℕ
set_of P zero = 0
set_of P (suc k) = cond (P k) (2 ^ k) 0 + set_of P k

-- 'how many lookaheads are in the set'
unfoldable pub count_of : (ℕ → Bool) → ℕ → ℕ
count_of P zero = 0
count_of P (suc k) = cond (P k) 1 0 + count_of P k
