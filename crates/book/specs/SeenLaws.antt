-- Definitions for the laws of ranks: the set of those seen tells which are there already, and ranks by number suit. Assumes nothing.
use Rattle.std.specs.Prelude.{cond, ℕ, ◌^◌, ltb}
use Rattle.std.specs.Int.Bits.{bit_or}
use Rattle.book.specs.declared.Part.{Part}
use Rattle.book.specs.declared.Part.TheVariants.{Head, Productions, Ranks, Actions, Gotos}

-- a set with a rank put in
abbrev pub marked : Part → ℕ → ℕ → ℕ
marked Head set v = set
marked Productions set v = set
marked Ranks set v = cond (ltb v 32) (bit_or set (2 ^ v)) set
marked Actions set v = set
marked Gotos set v = set
