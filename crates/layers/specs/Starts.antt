-- Where the rows of a state begin. Assumes nothing.
use Rattle.std.specs.Prelude.{ℕ, ◌+◌, ◌*◌}
use Rattle.book.specs.declared.Sizes.{Sizes}

-- in a layer, and in the flags of the rows that can be passed over
abbrev pub layer_row : ℕ → ℕ
layer_row q = q * 32

-- among the actions and among the gotos of a book of form 1
abbrev pub action_row : Sizes → ℕ → ℕ
action_row d q = 5 + 2 * d.p + q * d.t

abbrev pub goto_row : Sizes → ℕ → ℕ
goto_row d q = 5 + 2 * d.p + d.s * d.t + q * d.n

-- in the crossing table, where a nonterminal of the state has a row for each terminal
abbrev pub crossing_rows : Sizes → ℕ → ℕ
crossing_rows d q = q * (d.n * (d.t * d.t))

-- .. and for nonterminal X of it
abbrev pub crossing_block : Sizes → ℕ → ℕ → ℕ
crossing_block d q X = crossing_rows d q + X * (d.t * d.t)
