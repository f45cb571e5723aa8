-- The first pair whose sentence is wrong. Assumes nothing.
use Rattle.std.specs.Prelude.{false, List, [], length, get_or, ◌≡◌, ℕ, ◌/◌, ◌%◌, ◌≤◌, ◌<◌}
use Rattle.book.specs.Tables.{Tables}
use Rattle.walk.specs.Scale.{plain}
use Rattle.certificate.specs.Certificate.{is_right}
use Rattle.roads.specs.Lowest.{Lowest}
use Rattle.certificate.specs.Sentences.{spelled, sentences_in}

-- the sentences are not refused
pub record Admitted (t : ℕ) (bytes pairs : List ℕ) : Type 0 where
  pub ws : List (List ℕ)
  pub end : ℕ
  pub whole : sentences_in t bytes pairs ≡ spelled ws end

-- the pair of index k, which is that of state k / t and terminal k % t, has a sentence, which is not right
pub record WrongSentence (B : Tables) (t : ℕ) (pairs : List ℕ) (ws : List (List ℕ)) (k : ℕ) : Type 0 where
  pub there : k < length pairs
  pub claimed : get_or pairs k 0 ≤ plain.limit
  pub wrong : is_right B (get_or ws k []) (k % t) (k / t) (get_or pairs k 0) ≡ false

-- r is the lowest index of such a pair, or the number of pairs
pub record LowestWrong (B : Tables) (t : ℕ) (bytes pairs : List ℕ) (r : ℕ) : Type 0 where
  pub is : (ws : List (List ℕ)) (end : ℕ) → sentences_in t bytes pairs ≡ spelled ws end → Lowest (WrongSentence B t pairs ws) (length pairs) r
