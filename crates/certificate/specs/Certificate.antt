-- A certificate: its claims, the conditions in their order, where each fails, and which verdict is right. Assumes nothing.
use Rattle.std.specs.Prelude.{Bool, true, false, ◌&&◌, List, [], length, get_or, ◌⊎◌, ◌≡◌, ◌≢◌, ℕ, ◌+◌, ◌*◌, ◌<◌, ◌≤◌, eqb}
use Rattle.book.specs.{Tables.Tables, declared.Action.Action}
use Rattle.machine.specs.Machine.{Reaches}
use Rattle.within.specs.Within.{reaches_within}
use Rattle.walk.specs.{Scale.plain, Scale.long, Scale.unreached, Cost.Exact, Road.Crosses, Road.Claims, Road.Claimed, Road.Longer}
use Rattle.certificate.specs.declared.{Condition.Condition, Verdict.Verdict}

-- ---- the claims
-- 'claimed least lengths, 0 to 1,002 as in the map': of the crossing of (state, nonterminal, first, following) and of the pair (state,
-- terminal); and the sentence of each pair that has one
pub record Certificate : Type 0 where
  pub crossing : Claims
  pub pair : ℕ → ℕ → ℕ
  pub sentence : ℕ → ℕ → List ℕ

-- 'for each state, nonterminal, first and following terminal, the crossing of that goto, there or none'
abbrev pub crossing_at : Tables → ℕ → ℕ → ℕ → ℕ → ℕ
crossing_at B q X a z = ((q * B.nonterminals + X) * B.terminals + a) * B.terminals + z

abbrev pub crossing_count : Tables → ℕ
crossing_count B = B.states * B.nonterminals * B.terminals * B.terminals

-- 'and for each pair, its map cell': 'by state, then terminal'
abbrev pub pair_at : Tables → ℕ → ℕ → ℕ
pair_at B s z = s * B.terminals + z

abbrev pub pair_count : Tables → ℕ
pair_count B = B.states * B.terminals

-- 'the pairs counted on after the crossings'
abbrev pub claim_count : Tables → ℕ
claim_count B = crossing_count B + pair_count B

-- 'in two lent rows of 16-bit cells', with a sentence for each pair in the map's order, which is empty where the pair has none
unfoldable pub certificate_in : Tables → List ℕ → List ℕ → List (List ℕ) → Certificate
certificate_in B crossings pairs sentences = record {
  crossing = λ q X a z. get_or crossings (crossing_at B q X a z) 0;
  pair = λ s z. get_or pairs (pair_at B s z) 0;
  sentence = λ s z. get_or sentences (pair_at B s z) [];
}

-- ---- a road
-- 'any road from its state with its first and following terminal, as long as a production of that nonterminal, ending where that
-- production is reduced on the following terminal', at the claimed cost v; of the goto there may be none. 'A shift on t counts 1, has first
-- t and any following terminal. A road is transitions in a row, each one's following terminal being the next one's first; an empty road has
-- equal first and following': that is `Claimed`, with sums by `plus`: 'Sums over 1,000 stop at 1,001, and unreached plus anything is unreached'
pub record Road (B : Tables) (claim : Claims) (q X a z v : ℕ) : Type 0 where
  pub production : ℕ
  pub last : ℕ
  pub road : Claimed plain B claim q a v z (B.len production) last
  pub reduced : B.act last z ≡ Action.Reduce production
  pub left : B.lhs production ≡ X

-- ---- the conditions, 'in this order, a claim over 1,002 before them all'
abbrev pub order : Condition → ℕ
order Condition.Range = 0
order Condition.Roads = 1
order Condition.Start = 2
order Condition.Transitions = 3
order Condition.Short = 4
order Condition.Sentences = 5

-- P holds of the crossing, or of the pair, whose claim has the index i
pub record AtCrossing (B : Tables) (P : ℕ → ℕ → ℕ → ℕ → Type 0) (i : ℕ) : Type 0 where
  pub q : ℕ
  pub X : ℕ
  pub a : ℕ
  pub z : ℕ
  pub state : q < B.states
  pub nonterminal : X < B.nonterminals
  pub first : a < B.terminals
  pub following : z < B.terminals
  pub index : i ≡ crossing_at B q X a z
  pub fails : P q X a z

pub record AtPair (B : Tables) (P : ℕ → ℕ → Type 0) (i : ℕ) : Type 0 where
  pub s : ℕ
  pub z : ℕ
  pub state : s < B.states
  pub terminal : z < B.terminals
  pub index : i ≡ crossing_count B + pair_at B s z
  pub fails : P s z

-- a claim is more than a cost in P
abbrev pub Exceeds : ℕ → (ℕ → Type 0) → Type 0
Exceeds claim P = (v : ℕ) × P v × (v < claim)

-- a sentence that 'has its claimed length and reaches its pair within a run's limits'
abbrev pub is_right : Tables → List ℕ → ℕ → ℕ → ℕ → Bool
is_right B w z s claim = eqb (length w) claim && reaches_within B w z s

-- the condition fails at the claim of index i
abbrev pub Fails : Tables → Certificate → Condition → ℕ → Type 0
-- 'a claim over 1,002'
Fails B c Condition.Range i =
    AtCrossing B (λ q X a z. unreached plain < c.crossing q X a z) i ⊎ AtPair B (λ s z. unreached plain < c.pair s z) i
-- 'each crossing's claim is no more than any road ..'
Fails B c Condition.Roads i = AtCrossing B (λ q X a z. Exceeds (c.crossing q X a z) (Road B c.crossing q X a z)) i
-- 'each (0, z) is claimed 0'
Fails B c Condition.Start i = AtPair B (λ s z. (s ≡ 0) × (c.pair s z ≢ 0)) i
-- 'no pair's claim exceeds any pair's claim plus one transition from the latter's state to the former's, its first the latter's lookahead
-- and its following the former's'
Fails B c Condition.Transitions i = AtPair B (λ s z. Exceeds (c.pair s z) (Longer plain B c.crossing c.pair s z)) i
-- 'no pair is claimed long'
Fails B c Condition.Short i = AtPair B (λ s z. c.pair s z ≡ long plain) i
-- 'every sentence has its claimed length and reaches its pair within a run's limits', 'for each pair claimed at 1,000 or less'
Fails B c Condition.Sentences i =
    AtPair B (λ s z. (c.pair s z ≤ plain.limit) × (is_right B (c.sentence s z) z s (c.pair s z) ≡ false)) i

-- ---- the verdict
-- 'The checker accepts exactly if' no condition fails; else 'The fault told is the first condition in this order .. with the lowest claim's index'
pub data Judged (fails : Condition → ℕ → Type 0) : Verdict → Type 0 where
  accepts : ((k : Condition) (i : ℕ) → ¬ fails k i) → Judged fails Verdict.Accepted
  faults : (k : Condition) (i : ℕ) → fails k i → ((k' : Condition) (i' : ℕ) → order k' < order k → ¬ fails k' i')
      → ((i' : ℕ) → i' < i → ¬ fails k i') → Judged fails (Verdict.Fault k i)

-- ---- a true certificate
-- 'the true map': each pair's claim is its map cell
abbrev pub TrueMap : Tables → (ℕ → ℕ → ℕ) → Type 0
TrueMap B pair = (s z : ℕ) → s < B.states → z < B.terminals → Exact plain (λ w. Reaches B w z s) (pair s z)

-- 'A true certificate without long pairs' whose 'sentences reach within those limits'; the claim of a crossing is the least length of its
-- words, the goto there or none
pub record True (B : Tables) (c : Certificate) : Type 0 where
  pub crossings : (q X a z : ℕ) → q < B.states → X < B.nonterminals → a < B.terminals → z < B.terminals
      → Exact plain (Crosses B q X a z) (c.crossing q X a z)
  pub pairs : TrueMap B c.pair
  pub short : (s z : ℕ) → s < B.states → z < B.terminals → c.pair s z ≢ long plain
  pub lengths : (s z : ℕ) → s < B.states → z < B.terminals → c.pair s z ≤ plain.limit → length (c.sentence s z) ≡ c.pair s z
  pub within : (s z : ℕ) → s < B.states → z < B.terminals → c.pair s z ≤ plain.limit → reaches_within B (c.sentence s z) z s ≡ true
