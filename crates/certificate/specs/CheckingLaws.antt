-- Definitions for the laws of the call, refusal by refusal, and of what is admitted. Assumes nothing.
use Rattle.std.specs.Prelude.{◌≡◌, ℕ, ◌*◌}
use Rattle.book.specs.declared.Sizes.{Sizes}
use Rattle.layers.specs.Crossing.{room}

-- ---- the rows
-- two rows have the lengths that a book of these sizes asks for
pub record RowsFit (d : Sizes) (crossings pairs : ℕ) : Type 0 where
  pub crossing-cells : crossings ≡ room d
  pub pair-cells : pairs ≡ d.s * d.t
