-- What is proved of reductions that break, as statements: `TheoryLaws` has the proof. Assumes nothing.
use Rattle.std.specs.Prelude.{List, [], ◌∷◌, ◌⊎◌, ◌↔◌, ◌≡◌, ℕ, ◌≤◌, ◌<◌, length}
use Rattle.book.specs.Tables.{Tables}
use Rattle.book.specs.declared.Action.TheVariants.{Reduce}
use Rattle.machine.specs.Machine.{Terminals}
use Rattle.machine.specs.Run.{runs}
use Rattle.machine.specs.declared.Ending.TheVariants.{Broken}
use Rattle.machine.specs.declared.Stop.{Stop}
use Rattle.walk.specs.Walk.{first}
use Rattle.walk.specs.Scale.{Scale}
use Rattle.walk.specs.Cost.{Exact}
use Rattle.walk.specs.Claims.{Claims, Closed, Witnessed, Least, Matches, ClaimedDescends}
use Rattle.walk.specs.Breaks.{Breaks}
use Rattle.walk.specs.Goal.{BreaksAt}
use Rattle.walk.specs.Ends.{end_cost}
use Rattle.walk.specs.Choice.{Brings, Guides}
use Rattle.walk.specs.Answer.{Outcome, AnswerBreak}
use Rattle.walk.specs.AnswerLaws.{mapped}
use Rattle.breaks.specs.Breaking.{Far, Short, GetsBreak}
use Rattle.breaks.specs.BreakClaims.{ClaimedFar, BreakArrival, ToBreak, ClaimedBreak}

-- of all tables in range, on every scale
pub record BreakTheory (σ : Scale) (B : Tables) : Type 0 where
  -- only a pair that reduces breaks; a run that ends as broken with its whole sentence in breaks there
  pub reduces : {w : List ℕ} {z s : ℕ} → Breaks B w z s → (p : ℕ) × (B.act s z ≡ Reduce p)
  pub runs-broken : (w : List ℕ) (z : ℕ) (stop : Stop) → (runs B z w 0 (0 ∷ [])).0 ≡ Broken stop → stop.taken ≡ length w → Terminals B w → Breaks B w z stop.state
  -- from the start: far, or by fewer transitions than the production is long; from any stack exactly as `GetsBreak` says
  pub goal : {z s : ℕ} (w : List ℕ) → Brings B z (BreaksAt B s z) (0 ∷ []) w ↔ Breaks B w z s
  pub from_start : {p s z : ℕ} → B.act s z ≡ Reduce p → (w : List ℕ) → Breaks B w z s ↔ (Far B p s z 0 (first w z) w ⊎ Short B p s z w)
  pub from-stack : {p s z : ℕ} {st : List ℕ} → B.act s z ≡ Reduce p → (w : List ℕ) → Brings B z (BreaksAt B s z) st w ↔ GetsBreak B p s z st (first w z) w
  -- what closed and witnessed claims make stands for words: of far breaks, of breaks from the start, whose least cost is so exact, and from a stack
  pub fars : {claim : Claims} {p s z q a : ℕ} → Closed σ B claim → Witnessed σ B claim → z < B.terminals → Matches σ (ClaimedFar σ B claim p s z q a) (Far B p s z q a)
  pub arrivals : {claim : Claims} {p s z : ℕ} → Closed σ B claim → Witnessed σ B claim → z < B.terminals → B.act s z ≡ Reduce p
      → Matches σ (BreakArrival σ B claim p s z) (λ w. Breaks B w z s)
  pub lengths : {claim : Claims} {p s z d : ℕ} → Closed σ B claim → Witnessed σ B claim → z < B.terminals → B.act s z ≡ Reduce p
      → Least σ (BreakArrival σ B claim p s z) d → Exact σ (λ w. Breaks B w z s) d
  pub stacks : {claim : Claims} {p s z a : ℕ} {st : List ℕ} → Closed σ B claim → Witnessed σ B claim → z < B.terminals
      → Matches σ (ClaimedDescends σ B claim (ClaimedBreak σ B claim p s z) st a) (GetsBreak B p s z st a)
  -- the costs to go tell from every stack with which symbols a word within a bound breaks; the least of them from the start is exact
  pub guides : {claim : Claims} {p s z : ℕ} {G : ℕ → ℕ → ℕ} {L : ℕ → ℕ → ℕ → ℕ} → Closed σ B claim → Witnessed σ B claim → z < B.terminals → B.act s z ≡ Reduce p
      → ToBreak σ B claim p s z G L → Guides σ B claim z (BreaksAt B s z) (end_cost B (B.lhs p) (B.len p) G L)
  pub start : {claim : Claims} {p s z : ℕ} {G : ℕ → ℕ → ℕ} {L : ℕ → ℕ → ℕ → ℕ} → Closed σ B claim → Witnessed σ B claim → z < B.terminals → B.act s z ≡ Reduce p
      → ToBreak σ B claim p s z G L → (m : ℕ) → ((a : ℕ) → a < B.terminals → m ≤ end_cost B (B.lhs p) (B.len p) G L [] 0 a)
      → ((a : ℕ) × (a < B.terminals) × (m ≡ end_cost B (B.lhs p) (B.len p) G L [] 0 a)) → Exact σ (λ w. Breaks B w z s) m
  -- at most one answer is right for a pair, and its length is exact; no sequence breaks without a reduce action
  pub one_answer : (rank : ℕ → ℕ) (s z : ℕ) (o o' : Outcome) → AnswerBreak σ rank B s z o → AnswerBreak σ rank B s z o' → o ≡ o'
  pub answer-length : (rank : ℕ → ℕ) (s z : ℕ) (o : Outcome) → AnswerBreak σ rank B s z o → Exact σ (λ w. Breaks B w z s) (mapped σ o)
  pub no_answer : {s z : ℕ} → ((p : ℕ) → ¬ (B.act s z ≡ Reduce p)) → (w : List ℕ) → ¬ Breaks B w z s
