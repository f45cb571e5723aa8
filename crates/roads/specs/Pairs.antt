-- The pairs' claims by their index, as a layer, and where one exceeds another and a transition. Assumes nothing.
use Rattle.std.specs.Prelude.{List, ◌≡◌, ℕ, ◌+◌, ◌*◌, ◌/◌, ◌%◌, ◌<◌, length, get_or}
use Rattle.book.specs.Tables.{Tables}
use Rattle.book.specs.declared.Sizes.{Sizes}
use Rattle.walk.specs.Scale.{plain}
use Rattle.walk.specs.Claims.{Claims}
use Rattle.walk.specs.Layers.{Longer}

-- the claim of the pair (q, z)
unfoldable pub pair_in : ℕ → List ℕ → ℕ → ℕ → ℕ
pair_in t pairs q z = get_or pairs (q * t + z) 0

-- the first n of them stand in the rows of an array
pub record PairsIn (t : ℕ) (pairs : List ℕ) (n : ℕ) (values : List ℕ) : Type 0 where
  pub size : length values ≡ 4096
  pub same : (k : ℕ) → k < n → get_or values (k / t * 32 + k % t) 0 ≡ get_or pairs k 0

-- the claim of index k is more than the cost in a layer
pub record OverLayer (t : ℕ) (pairs : List ℕ) (L : ℕ → ℕ → ℕ) (k : ℕ) : Type 0 where
  pub inside : k < length pairs
  pub over : L (k / t) (k % t) < get_or pairs k 0

-- .. than another pair's claim and one transition from there
pub record PairExceeds (d : Sizes) (B : Tables) (claim : Claims) (pairs : List ℕ) (k : ℕ) : Type 0 where
  pub s : ℕ
  pub z : ℕ
  pub v : ℕ
  pub state : s < d.s
  pub terminal : z < d.t
  pub index : k ≡ s * d.t + z
  pub longer : Longer plain B claim (pair_in d.t pairs) s z v
  pub exceeds : v < pair_in d.t pairs s z
