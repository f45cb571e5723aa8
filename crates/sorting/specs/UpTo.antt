-- Bytes state by state, one piece after another. Assumes nothing.
use Rattle.std.specs.Prelude.{List, [], ◌++◌, ℕ, zero, suc, get_or}
use Rattle.items.specs.SpanLaws.{span_at}

-- those of the first s states
unfoldable pub up_to : (ℕ → List ℕ) → ℕ → List ℕ
up_to piece zero = []
up_to piece (suc s) = up_to piece s ++ piece s

-- the entries of a list that stand at the places of the first s states
abbrev pub spans_to : List ℕ → List ℕ → ℕ → List ℕ
spans_to bytes places = up_to (λ s. span_at bytes (get_or places s 0))
