-- Laws of one pair as a goal: the least cost to go from the start is the least length of the words that reach it, or with which its reduction
-- breaks. Assumes nothing.
use Rattle.std.specs.Prelude.{Bool, true, false, List, [], ◌∷◌, ◌↔◌, ◌≡◌, refl, ℕ, ◌≤◌, ◌<◌, length}
use Rattle.std.proofs.Common.{inl, inr, ⊎_elim, ◌∙◌, sym, le_trans, arith}
use Rattle.number.specs.Lent.{over}
use Rattle.book.specs.Tables.{Tables, tables_of}
use Rattle.book.specs.TablesLaws.{Holds, InRange}
use Rattle.book.proofs.TablesLaws.{in-range}
use Rattle.book.specs.declared.Action.{Action}
use Rattle.book.specs.declared.Action.TheVariants.{Error, Accept, Shift, Reduce}
use Rattle.book.specs.declared.Sizes.{Sizes}
use Rattle.machine.specs.Machine.{Reaches}
use Rattle.machine.specs.MachineLaws.{clash}
use Rattle.walk.specs.Answer.{Long, WordsOf, AnswerAs, Unreached as Never, Sentence as Word}
use Rattle.walk.proofs.AnswerLaws.{best_none, best-long, answer-rank}
use Rattle.walk.specs.Choice.{Brings, Guides}
use Rattle.walk.proofs.ChoiceLaws.{reaches-brings}
use Rattle.walk.specs.Claims.{Claims, Claimed, Least, Arrival, Onward}
use Rattle.walk.proofs.ClaimsLaws.{claimed-terminal, onward-goal, onward-claimed, weights-least, start-exact}
use Rattle.walk.specs.Cost.{Exact}
use Rattle.walk.specs.Ends.{end_cost}
use Rattle.walk.specs.Goal.{Tops, BreaksAt, Aim}
use Rattle.walk.specs.OrderLaws.{RankAlike}
use Rattle.walk.specs.Scale.{Scale, plain, long, unreached}
use Rattle.walk.proofs.ShortestLaws.{cost-length}
use Rattle.breaks.specs.AnswerBreakLaws.{no-break}
use Rattle.breaks.specs.BreakClaims.{ToBreak}
use Rattle.breaks.specs.BreakClaimsLaws.{break-guides, start-exact-break}
use Rattle.breaks.specs.BreakingLaws.{breaks-brings}
use Rattle.layers.specs.Crossing.{claim_in}
use Rattle.layers.specs.CrossingLaws.{terminals-are, states-are}
use Rattle.layers.specs.Layer.{entry_in, layer_in}
use Rattle.crossings.specs.Crossings.{CrossingTable}
use Rattle.distances.specs.Distances.{Single, GoalTable}
use Rattle.distances.specs.SingleLaws.{single-least}
use Rattle.distances.specs.TableLaws.{table-closed, table-witnessed}
use Rattle.approach.specs.Shortest.{least_over, Lowest}
use Rattle.approach.specs.ShortestLaws.{shortest-none, shortest-ends}
use Rattle.choice.specs.Choosing.{Chose}
use Rattle.choice.specs.ChoosingLaws.{exact-map, chose-map}
use Rattle.choice.specs.GoalLaws.{OnePair, ToPair, pair-guides}
use Rattle.finder.specs.Finder.{Answered}
use Rattle.finder.specs.declared.Found.{Found}
use Rattle.finder.specs.declared.Found.TheVariants.{Unreached, Long as Far', Sentence}

-- ---- from the start
-- the least of the costs to go from the start is that of arriving
start-arrival : {σ : Scale} {B : Tables} {claim : Claims} {s z m : ℕ} {G : ℕ → ℕ} → ((a : ℕ) → a < B.terminals → Least σ (Onward σ B claim (OnePair s z) 0 a) (G a))
    → Lowest G B.terminals m → Least σ (Arrival σ B claim s z) m
start-arrival {σ} {B} {claim} {s} {z} e x = record {
  below = λ v (a, n, c). let ha = claimed-terminal c in le_trans (x.below a ha) ((e a ha).below v (onward-goal (refl, refl) c));
  attained = let (a, ha, h) = x.attained in ⊎_elim (λ u. inl (h ∙ u)) (λ o. inr (rw h (arrives (onward-claimed o)))) (e a ha).attained;
}
  where
    arrives : {a v : ℕ} → (n : ℕ) × ((s' z' : ℕ) × OnePair s z s' z' × Claimed σ B claim 0 a v z' n s') → Arrival σ B claim s z v
    arrives {a} (n, (s', z', j, c)) = (a, n, rw (j.0, j.1) at c)

-- ---- the weights of one pair
module _ {d : Sizes} {cells table weights dist : List ℕ} {s z : ℕ} (h : Holds d cells) (x : Single plain s z weights) (g : GoalTable plain d cells table weights dist) where
  pub to-pair : ToPair plain (tables_of cells) (claim_in d table) s z (entry_in dist)
  to-pair q a hq ha = weights-least (in-range h) hq
      (λ s' z' hs hz. single-least x s' z' (omega (arith, h.small.states, states-are h)) (omega (arith, h.small.terminals, terminals-are h)))
      (g.least q a (rw (states-are h) at hq) (rw (terminals-are h) at ha))

  -- with no layers it guides to the pair
  pub reach-guides : CrossingTable plain d cells table → z < d.t → (X : ℕ) (L : ℕ → ℕ → ℕ → ℕ) → Guides plain (tables_of cells) (claim_in d table) z (Tops s) (end_cost (tables_of cells) X 0 (entry_in dist) L)
  reach-guides t hz = pair-guides (in-range h) (table-closed h t) (table-witnessed h t) (rw (terminals-are h) hz) to-pair

  pub reach-exact : {n : ℕ} (due : List ℕ) → CrossingTable plain d cells table → z < d.t → Lowest (least_over dist due 0) d.t n → Exact plain (λ w. Reaches (tables_of cells) w z s) n
  reach-exact due t hz m = start-exact (in-range h) (table-closed h t) (table-witnessed h t) (rw (terminals-are h) hz)
      (start-arrival (λ a ha. to-pair 0 a (in-range h).start ha) (rw (terminals-are h) (shortest-none dist due m)))

-- ---- a break of production p in a pair
module _ {d : Sizes} {cells table : List ℕ} {p s z : ℕ} (h : Holds d cells) (t : CrossingTable plain d cells table) (hz : z < d.t) (e : (tables_of cells).act s z ≡ Reduce p) where
  pub broken-guides : {G : ℕ → ℕ → ℕ} {L : ℕ → ℕ → ℕ → ℕ} → ToBreak plain (tables_of cells) (claim_in d table) p s z G L
      → Guides plain (tables_of cells) (claim_in d table) z (BreaksAt (tables_of cells) s z) (end_cost (tables_of cells) ((tables_of cells).lhs p) ((tables_of cells).len p) G L)
  broken-guides x = break-guides (in-range h) (table-closed h t) (table-witnessed h t) (rw (terminals-are h) hz) e x

  pub broken-exact : {n : ℕ} (dist due : List ℕ) → ToBreak plain (tables_of cells) (claim_in d table) p s z (entry_in dist) (layer_in due)
      → Lowest (least_over dist due ((tables_of cells).len p)) d.t n → Exact plain (WordsOf true (tables_of cells) s z) n
  broken-exact {n} dist due x m =
      let l = shortest-ends (tables_of cells) ((tables_of cells).lhs p) ((tables_of cells).len p) dist due (rw (← terminals-are h) at m) in
      start-exact-break (in-range h) (table-closed h t) (table-witnessed h t) (rw (terminals-are h) hz) e x n l.below l.attained

-- ---- the words from the start
-- those of the answer are those that bring the machine from state 0 to the goal
words-brings : (B : Tables) (s z : ℕ) → InRange B → (breaks : Bool) (w : List ℕ) → Brings B z (Aim B breaks s z) (0 ∷ []) w ↔ WordsOf breaks B s z w
words-brings B s z i false w = reaches-brings i w
words-brings B s z i true w = breaks-brings i w

module _ (breaks : Bool) (B : Tables) (s z : ℕ) where
  pub brings-exact : {n : ℕ} → InRange B → Exact plain (WordsOf breaks B s z) n → Exact plain (Brings B z (Aim B breaks s z) (0 ∷ [])) n
  brings-exact i e = exact-map (λ w. let (to, from) = words-brings B s z i breaks w in (from, to)) e

  -- ---- the answers, by the exact cost
  module _ {n : ℕ} {buffer : List ℕ} (rank : ℕ → ℕ) (e : Exact plain (WordsOf breaks B s z) n) where
    pub answered-unreached : unreached plain ≤ n → Answered breaks rank B s z buffer Unreached buffer
    answered-unreached h = record {
      thing = Never;
      right = let same : n ≡ unreached plain = ⊎_elim (λ u. u) (λ (w, r, u). omega (arith, u)) e.attained in best_none plain rank (WordsOf breaks B s z) (rw same at e);
      same = refl;
    }

    pub answered-long : long plain ≤ n → n < unreached plain → Answered breaks rank B s z buffer Far' buffer
    answered-long g h = record { thing = Long; right = let same : n ≡ long plain = omega arith in best-long plain rank (WordsOf breaks B s z) (rw same at e); same = refl }

  answered-word : {rank : ℕ → ℕ} {n : ℕ} {buffer left : List ℕ} (word : List ℕ) → left ≡ over word buffer → n ≡ length word → AnswerAs breaks plain rank B s z (Word word)
      → Answered breaks rank B s z buffer (Sentence n) left
  answered-word word front count a = record { thing = Word word; right = a; same = rw (front, count) }

  pub answered-sentence : {rank : ℕ → ℕ} {n : ℕ} {buffer left : List ℕ} → InRange B → Chose plain rank (Brings B z (Aim B breaks s z) (0 ∷ [])) n buffer left
      → Answered breaks rank B s z buffer (Sentence n) left
  answered-sentence i c =
      let x = chose-map (words-brings B s z i breaks) c in
      answered-word x.word x.front (sym x.paid ∙ cost-length x.word) x.answer

  -- other ranks that agree on the terminals
  pub answered-rank : {rank rank' : ℕ → ℕ} {buffer left : List ℕ} {r : Found} → RankAlike rank rank' B → Answered breaks rank B s z buffer r left
      → Answered breaks rank' B s z buffer r left
  answered-rank f a = record { thing = a.thing; right = answer-rank breaks plain B f s z a.thing a.right; same = a.same }

-- a pair that does not reduce has no break
answered-none : {B : Tables} {s z : ℕ} {buffer : List ℕ} (rank : ℕ → ℕ) → ((p : ℕ) → ¬ (B.act s z ≡ Reduce p)) → Answered true rank B s z buffer Unreached buffer
answered-none rank none = record { thing = Never; right = no-break none; same = refl }

module _ {B : Tables} {s z : ℕ} {buffer : List ℕ} {x : Action} (rank : ℕ → ℕ) (same : x ≡ B.act s z) where
  pub answered-error : x ≡ Error → Answered true rank B s z buffer Unreached buffer
  answered-error e = answered-none rank (λ p f. clash cc)

  pub answered-accept : x ≡ Accept → Answered true rank B s z buffer Unreached buffer
  answered-accept e = answered-none rank (λ p f. clash cc)

  pub answered-shift : {g : ℕ} → x ≡ Shift g → Answered true rank B s z buffer Unreached buffer
  answered-shift e = answered-none rank (λ p f. clash cc)
