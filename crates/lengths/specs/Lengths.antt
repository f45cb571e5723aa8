-- What the table of breaks says, and what its passes go by. Assumes nothing.
use Rattle.std.specs.Prelude.{Bool, true, false, List, ◌≡◌, ℕ, ◌≤◌, ◌<◌, length, get_or}
use Rattle.sets.specs.Bits.{member}
use Rattle.book.specs.Tables.{Tables, tables_of}
use Rattle.book.specs.declared.Sizes.{Sizes}
use Rattle.walk.specs.Breaks.{Breaks}
use Rattle.walk.specs.Cost.{Exact}
use Rattle.walk.specs.Scale.{Scale, unreached}
use Rattle.layers.specs.Layer.{entry_in}
use Rattle.layers.specs.States.{flag_in, Listed}
use Rattle.lengths.specs.declared.Missing.{Missing}
use Rattle.lengths.specs.Starts.{Fails, Reduces, Ahead}

-- each entry is the least cost of the words with which the reduction of its pair breaks; no word breaks where the action is no reduction
pub record BreakTable (σ : Scale) (d : Sizes) (cells to : List ℕ) : Type 0 where
  pub size : length to ≡ 4096
  pub exact : (s z : ℕ) → s < d.s → z < d.t → Exact σ (λ w. Breaks (tables_of cells) w z s) (entry_in to s z)

-- the answer of a test
pub record Decides (r : Bool) (P : Type 0) : Type 0 where
  pub if-true : r ≡ true → P
  pub if-false : r ≡ false → ¬ P

-- each of the first n productions that breaks for want of that does so after at most r transitions from a start, and r is 32 at most
pub record LastFailing (missing : Missing) (B : Tables) (n r : ℕ) : Type 0 where
  pub bound : (p m : ℕ) → p < n → Fails missing B m p → m ≤ r
  pub most : r ≤ 32

-- masks of nonterminals, m transitions from a start: that of a state below i leaves X out only where no reduction to X is ahead
pub record AheadMasks (B : Tables) (m i : ℕ) (masks : List ℕ) : Type 0 where
  pub size : length masks ≡ 128
  pub none : (q X : ℕ) → q < i → member (get_or masks q 0) X ≡ false → ¬ Ahead B X m q

-- of the states below i those are on that have no goto under X, unless they have no distance or X is not in their masks
pub record LackingOn (σ : Scale) (t : ℕ) (B : Tables) (X : ℕ) (dist masks : List ℕ) (i : ℕ) (flags : List ℕ) : Type 0 where
  pub listed : Listed i flags
  pub lacking : (q : ℕ) → ¬ (flag_in flags q ≡ 0) → B.goto q X ≡ 0
  pub off : (q a : ℕ) → q < i → a < t → flag_in flags q ≡ 0 → B.goto q X ≡ 0 → member (get_or masks q 0) X ≡ true → unreached σ ≤ entry_in dist q a

-- what the layer L of m transitions offers to a pair: its cost there, if the pair has such a reduction
abbrev pub LayerEnding : Scale → Missing → Tables → ℕ → (ℕ → ℕ → ℕ) → ℕ → ℕ → ℕ → Type 0
LayerEnding σ missing B m L s z w = Reduces missing B m s z × (w ≡ L s z) × (w < unreached σ)

-- the candidates of turn j over row s
abbrev pub Turn : (ℕ → ℕ → ℕ → Type 0) → ℕ → ℕ → ℕ → ℕ → ℕ → Type 0
Turn P s j q z w = (q ≡ s) × (z ≡ j) × P q z w
