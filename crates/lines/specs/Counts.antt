-- The counts of a listing's header. Assumes nothing.
use Rattle.std.specs.Prelude.{Bool, ◌≡◌, ℕ, zero, suc, ◌+◌, ◌<◌}
use Rattle.book.specs.{Tables.Tables, declared.Sizes.Sizes}
use Rattle.sets.specs.Set.{count_of}
use Rattle.failing.specs.Failing.{FailingPair, Decides}
use Rattle.lines.specs.Line.{HasLine}

-- how many pairs of one of the first S states and one of the first T terminals pass a test
unfoldable pub pairs_of : (ℕ → ℕ → Bool) → ℕ → ℕ → ℕ
pairs_of P T zero = 0
pairs_of P T (suc S) = count_of (P S) T + pairs_of P T S

-- 'The header counts error actions and failing pairs'; by request 5 'The header's first count becomes the number of lines'
pub record Counts (B : Tables) (d : Sizes) (lines failing : ℕ) : Type 0 where
  pub listed : ℕ → ℕ → Bool
  pub decides-line : (s z : ℕ) → s < d.s → z < d.t → Decides (listed s z) (HasLine B s z)
  pub fails : ℕ → ℕ → Bool
  pub decides : (s z : ℕ) → s < d.s → z < d.t → Decides (fails s z) (FailingPair B s z)
  pub all : lines ≡ pairs_of listed d.t d.s
  pub pairs : failing ≡ pairs_of fails d.t d.s
