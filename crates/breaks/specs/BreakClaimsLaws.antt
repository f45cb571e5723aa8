-- What is claimed to break stands for the words that break, from the start and from any stack, and so for tables of costs to go. Assumes nothing.
use Rattle.std.specs.Prelude.{List, [], ◌≡◌, refl, ℕ, suc, ◌-◌, ◌≤◌, ◌<◌}
use Rattle.std.proofs.Common.{inl, inr, ⊎_elim, ◌∙◌, le_trans, arith}
use Rattle.std.proofs.Math.Logic.{⊎_map}
use Rattle.std.proofs.Math.Seq.{drop-nil}
use Rattle.book.specs.Tables.{Tables}
use Rattle.book.specs.TablesLaws.{InRange}
use Rattle.book.specs.declared.Action.TheVariants.{Reduce}
use Rattle.walk.specs.Walk.{first}
use Rattle.walk.proofs.WalkLaws.{walk-terminal}
use Rattle.walk.specs.Scale.{Scale, unreached, cap}
use Rattle.walk.specs.Cost.{cost, Attained, Exact}
use Rattle.walk.proofs.CostLaws.{attained-map}
use Rattle.walk.specs.Claims.{Claims, Closed, Witnessed, Least, ClaimedDescends, Matches}
use Rattle.walk.proofs.ClaimsLaws.{closed-below, witnessed-above, claimed-terminal, walks-to-matches, descends-matches, ends-serve}
use Rattle.walk.proofs.MatchesLaws.{matches-exact, matches-map}
use Rattle.walk.specs.Breaks.{Breaks}
use Rattle.walk.specs.Goal.{BreaksAt}
use Rattle.walk.specs.Ends.{end_cost}
use Rattle.walk.specs.Choice.{Guides}
use Rattle.walk.proofs.ChoiceLaws.{completes-matches}
use Rattle.breaks.specs.Breaking.{Far, BreaksOn, far, near, GetsBreak}
use Rattle.breaks.specs.BreakingLaws.{break-lands, break-start, far-breaks, short-breaks}
use Rattle.breaks.specs.BreakClaims.{ClaimedFar, BreakArrival, ToBreak, ClaimedBreak, claimed-far, claimed-near}
use Rattle.breaks.specs.ToGoLaws.{LeastToGo, end-cost-least}

-- with tables in range, the first terminal is one where the next is
on-terminal : {B : Tables} {p s z : ℕ} → InRange B → z < B.terminals → (q : ℕ) (st : List ℕ) (a : ℕ) (w : List ℕ) (n : ℕ) → BreaksOn B p s z q st a w n → a < B.terminals
on-terminal i h q st a w n (far f) = walk-terminal i f.terminal f.walk
on-terminal i h q st a w n (near k r l b) = walk-terminal i h r

-- from the start nothing lies below the stack
module _ {σ : Scale} {B : Tables} {claim : Claims} {p s z : ℕ} where
  arrival-claimed : {v : ℕ} → BreakArrival σ B claim p s z v → (a n : ℕ) × (a < B.terminals) × ClaimedBreak σ B claim p s z 0 [] a v n
  arrival-claimed (inl (a, f)) = (a, 0, claimed-terminal f.walk, claimed-far f)
  arrival-claimed (inr (a, n, h, r)) = let k = B.len p - suc n in (a, n, claimed-terminal r, claimed-near k r (omega arith) (rw (drop-nil k) refl))

  claimed-arrival : {a v n : ℕ} {st : List ℕ} → ClaimedBreak σ B claim p s z 0 st a v n → BreakArrival σ B claim p s z v
  claimed-arrival {a} (claimed-far f) = inl (a, f)
  claimed-arrival {a} {n} (claimed-near k r l b) = inr (a, n, omega arith, r)

-- with the costs to go to a break, what counts over a stack is the least of what is claimed to break there
module _ {σ : Scale} {B : Tables} {claim : Claims} {p s z : ℕ} {G : ℕ → ℕ → ℕ} {L : ℕ → ℕ → ℕ → ℕ} (t : ToBreak σ B claim p s z G L) where
  ends-least : (q : ℕ) (st : List ℕ) (a : ℕ) → q < B.states → a < B.terminals
      → Least σ (λ v. (n : ℕ) × ClaimedBreak σ B claim p s z q st a v n) (end_cost B (B.lhs p) (B.len p) G L st q a)
  ends-least q st a hq ha = record {
    below = λ v (n, x). low x;
    attained = ⊎_elim
        (λ x. ⊎_map (λ u. x ∙ u) (λ f. (0, claimed-far (rw x f))) (t.far q a hq ha).attained)
        (λ (j, k, l, b, x). ⊎_map (λ u. x ∙ u) (λ r. (j, claimed-near k (rw x r) l b)) (t.near j (omega (arith, l)) q a hq ha).attained)
        least.attained;
  }
    where
      least : LeastToGo B (B.lhs p) (B.len p) G L (B.len p) st q a (end_cost B (B.lhs p) (B.len p) G L st q a)
      least = end-cost-least B (B.lhs p) (B.len p) G L st q a

      low : {v n : ℕ} → ClaimedBreak σ B claim p s z q st a v n → end_cost B (B.lhs p) (B.len p) G L st q a ≤ v
      low {v} (claimed-far f) = le_trans least.far ((t.far q a hq ha).below v f)
      low {v} {n} (claimed-near k r l b) = le_trans (least.near n k (omega arith) l b) ((t.near n (omega arith) q a hq ha).below v r)

module _ {σ : Scale} {B : Tables} {claim : Claims} (i : InRange B) (c : Closed σ B claim) (k : Witnessed σ B claim) where
  pub far-matches : {p s z q a : ℕ} → z < B.terminals → Matches σ (ClaimedFar σ B claim p s z q a) (Far B p s z q a)
  far-matches h = walks-to-matches i c k (λ v n q₁ z₁ r. record {
    below = λ w (g, x). let (y, t, l) = closed-below i c h x in (y, (g, t), l);
    above = λ y (g, t). attained-map σ (λ w x. (g, x)) (witnessed-above k t);
  })

  on-matches : {p s z : ℕ} → z < B.terminals → (q : ℕ) (st : List ℕ) (a n : ℕ) → Matches σ (λ v. ClaimedBreak σ B claim p s z q st a v n) (λ w. BreaksOn B p s z q st a w n)
  on-matches {p} {s} {z} h q st a n = record { below = λ w x. low x; above = λ v x. high x }
    where
      low : {w : List ℕ} → BreaksOn B p s z q st a w n → (v : ℕ) × ClaimedBreak σ B claim p s z q st a v n × (v ≤ cap σ (cost σ w))
      low {w} (far f) = let (v, x, l) = (far-matches h).below w f in (v, claimed-far x, l)
      low (near m r l b) = let (v, x, j) = closed-below i c h r in (v, claimed-near m x l b, j)

      high : {v : ℕ} → ClaimedBreak σ B claim p s z q st a v n → Attained σ (λ w. BreaksOn B p s z q st a w n) v
      high {v} (claimed-far f) = attained-map σ (λ w x. far x) ((far-matches h).above v f)
      high (claimed-near m r l b) = attained-map σ (λ w x. near m x l b) (witnessed-above k r)

  -- from any stack
  pub break-matches : {p s z a : ℕ} {st : List ℕ} → z < B.terminals → Matches σ (ClaimedDescends σ B claim (ClaimedBreak σ B claim p s z) st a) (GetsBreak B p s z st a)
  break-matches h = descends-matches i c k (on-terminal i h) (on-matches h)

  module _ {p s z : ℕ} (h : z < B.terminals) (e : B.act s z ≡ Reduce p) where
    -- from the start, and so the least is exact
    pub arrival-matches : Matches σ (BreakArrival σ B claim p s z) (λ w. Breaks B w z s)
    arrival-matches = record {
      below = λ w b. ⊎_elim
          (λ f. let (v, x, l) = (far-matches h).below w f in (v, inl (first w z, x), l))
          (λ (n, j, r). let (v, x, l) = closed-below i c h r in (v, inr (first w z, n, j, x), l))
          ((break-start i e w).0 b);
      above = λ v x. ⊎_elim
          (λ (a, f). attained-map σ (λ w y. far-breaks i e y) ((far-matches h).above v f))
          (λ (a, n, j, r). attained-map σ (λ w y. short-breaks i e j y) (witnessed-above k r))
          x;
    }

    pub arrival-exact : {d : ℕ} → Least σ (BreakArrival σ B claim p s z) d → Exact σ (λ w. Breaks B w z s) d
    arrival-exact l = matches-exact arrival-matches l

    module _ {G : ℕ → ℕ → ℕ} {L : ℕ → ℕ → ℕ → ℕ} (t : ToBreak σ B claim p s z G L) where
      -- the costs to go tell from every stack with which symbols a word within a bound breaks
      pub break-guides : Guides σ B claim z (BreaksAt B s z) (end_cost B (B.lhs p) (B.len p) G L)
      break-guides = record {
        tells = λ {q} {x} {r} {st} hq hx hr.
            let below : r < unreached σ = omega (arith, hr) in
            let words = matches-map (λ w. let (to, from) = break-lands i e x w in (from, to)) (break-matches h) in
            completes-matches i hr (ends-serve below (ends-least t)) words hq hx;
      }

      -- from the start, over the empty rest, the least of them is exact
      pub start-exact-break : (m : ℕ) → ((a : ℕ) → a < B.terminals → m ≤ end_cost B (B.lhs p) (B.len p) G L [] 0 a)
          → ((a : ℕ) × (a < B.terminals) × (m ≡ end_cost B (B.lhs p) (B.len p) G L [] 0 a)) → Exact σ (λ w. Breaks B w z s) m
      start-exact-break m low (a, ha, top) = arrival-exact (record {
        below = λ v x. let (b, n, hb, y) = arrival-claimed x in le_trans (low b hb) ((ends-least t 0 [] b i.start hb).below v (n, y));
        attained = ⊎_map (λ u. top ∙ u) (λ (n, y). rw top (claimed-arrival y)) (ends-least t 0 [] a i.start ha).attained;
      })
