-- Whether a terminal is in a set, and whether its cost is below a mark. Assumes nothing.
use Rattle.std.specs.Prelude.{Bool, List, ℕ, ◌/◌, ◌%◌, ◌^◌, ltb, eqb, get_or}

-- whether bit z is set
abbrev pub member : ℕ → ℕ → Bool
member set z = eqb (set / 2 ^ z % 2) 1

-- the cost of z is below a mark
abbrev pub below : List ℕ → ℕ → ℕ → Bool
below costs mark z = ltb (get_or costs z 0) mark
