-- The reached lookaheads, read off the distances from the start. Assumes nothing.
use Rattle.std.specs.Prelude.{Bool, List, ℕ}
use Rattle.sets.specs.Set.{set_of, count_of}
use Rattle.sets.specs.Bits.{below}
use Rattle.walk.specs.Scale.{plain, unreached}
use Rattle.maps.specs.Rows.{row}

-- whether (q, z) is reached, for each of the first t terminals z
abbrev pub reached_in : List ℕ → ℕ → ℕ → ℕ → Bool
reached_in dist t q = below (row dist t q) (unreached plain)

-- the set of row q, and how many are in it
abbrev pub mask_in : List ℕ → ℕ → ℕ → ℕ
mask_in dist t q = set_of (reached_in dist t q) t

abbrev pub size_in : List ℕ → ℕ → ℕ → ℕ
size_in dist t q = count_of (reached_in dist t q) t
