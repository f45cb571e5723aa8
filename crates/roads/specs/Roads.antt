-- Claims that exceed the cost of a road, by the layers over the claims. Assumes nothing.
use Rattle.std.specs.Prelude.{List, ◌≡◌, ℕ, suc, ◌+◌, ◌/◌, ◌%◌, ◌≤◌, ◌<◌, get_or}
use Rattle.book.specs.Tables.{Tables, tables_of}
use Rattle.book.specs.declared.Action.TheVariants.{Shift, Reduce}
use Rattle.book.specs.declared.Sizes.{Sizes}
use Rattle.walk.specs.Scale.{plain, unreached}
use Rattle.walk.specs.Claims.{Claims, Claimed}
use Rattle.walk.specs.Layers.{LayerWhere}
use Rattle.layers.specs.Crossing.{crossing_row, claim_in, Fitted}
use Rattle.positions.specs.Position.{PositionPassed}
use Rattle.roads.specs.Lowest.{Among}

-- a book and a table of claims of which none is over the mark for unreached
pub record Marked (d : Sizes) (cells table : List ℕ) : Type 0 where
  pub fitted : Fitted d cells table
  pub most : (k : ℕ) → get_or table k 0 ≤ unreached plain

-- ---- the index of a claim that exceeds the cost v of m transitions from (q, a), where z follows
-- .. by production p
pub record ExceededBy (d : Sizes) (B : Tables) (claim : Claims) (q a m z v p k : ℕ) : Type 0 where
  pub long : B.len p ≡ m
  pub index : k ≡ crossing_row d q (B.lhs p) a + z
  pub exceeds : v < claim q (B.lhs p) a z

-- .. by the production that is reduced in (last, z)
pub record ExceededAt (d : Sizes) (B : Tables) (claim : Claims) (q a m last z v k : ℕ) : Type 0 where
  pub production : ℕ
  pub reduced : B.act last z ≡ Reduce production
  pub exceeded : ExceededBy d B claim q a m z v production k

-- .. at the costs of a layer
abbrev pub ByLayer : Sizes → Tables → Claims → ℕ → ℕ → ℕ → (ℕ → ℕ → ℕ) → ℕ → Type 0
ByLayer d B claim q a m L = Among d.s (λ last. Among d.t (λ z. ExceededAt d B claim q a m last z (L last z)))

-- the layer of m transitions from (q, a) has the least costs in the states that a walk over a whole production passes
abbrev pub LayerPassed : Sizes → List ℕ → List ℕ → List ℕ → ℕ → ℕ → ℕ → (ℕ → ℕ → ℕ) → Type 0
LayerPassed d cells table positions = LayerWhere plain (tables_of cells) (claim_in d table) (λ i q' v. PositionPassed positions i q')

-- .. at the cost of any claimed walk
pub record ByRoad (d : Sizes) (B : Tables) (claim : Claims) (q a m k : ℕ) : Type 0 where
  pub last : ℕ
  pub z : ℕ
  pub v : ℕ
  pub walk : Claimed plain B claim q a v z m last
  pub exceeded : ExceededAt d B claim q a m last z v k

-- .. of m to n transitions
pub record ByRoads (d : Sizes) (B : Tables) (claim : Claims) (q a m n k : ℕ) : Type 0 where
  pub count : ℕ
  pub from : m ≤ count
  pub to : count ≤ n
  pub road : ByRoad d B claim q a count k

-- ---- rows that can be passed over
-- every claim of the goto of q under X, with the first terminal a, is unreached at least, if that goto is there
pub record Unclaimed (d : Sizes) (B : Tables) (claim : Claims) (q a X : ℕ) : Type 0 where
  pub far : {g z : ℕ} → B.goto q X ≡ suc g → z < d.t → unreached plain ≤ claim q X a z

-- no transition from the state and terminal of cell k costs less than unreached
pub record LeftNowhere (d : Sizes) (B : Tables) (claim : Claims) (k : ℕ) : Type 0 where
  pub shiftless : k / 32 < d.s → k % 32 < d.t → (s : ℕ) → ¬ (B.act (k / 32) (k % 32) ≡ Shift s)
  pub unclaimed : k / 32 < d.s → k % 32 < d.t → (X : ℕ) → X < d.n → Unclaimed d B claim (k / 32) (k % 32) X
