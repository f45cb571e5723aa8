-- Laws of choosing: the first symbol in order with which a word within what is left goes on keeps the right sentence in sight. Assumes nothing.
use Rattle.std.specs.Prelude.{List, [], ◌∷◌, ◌++◌, reverse, ◌↔◌, ◌≡◌, refl, ℕ, suc, ◌+◌, ◌-◌, ◌≤◌, ◌<◌, length, get_or, take, set}
use Rattle.std.proofs.lemmas.List.{reverse-append, length-reverse}
use Rattle.std.proofs.Common.{◌∙◌, ap, arith, length-append, take-suc, length-take-le}
use Rattle.number.specs.LentLaws.{over-more}
use Rattle.book.specs.Tables.{Tables}
use Rattle.book.specs.TablesLaws.{InRange}
use Rattle.machine.specs.Machine.{done}
use Rattle.walk.specs.Scale.{Scale, weight}
use Rattle.walk.specs.Cost.{Exact}
use Rattle.walk.proofs.CostLaws.{cost-append, attained-map}
use Rattle.walk.specs.Claims.{Claims}
use Rattle.walk.specs.Answer.{Sentence}
use Rattle.walk.proofs.AnswerLaws.{best-map}
use Rattle.walk.specs.ShiftLaws.{Ready}
use Rattle.walk.specs.Choice.{Chosen, WithinOf, Brings, LandsIn, Guides}
use Rattle.walk.proofs.ChoiceLaws.{chosen_none, choose, choose-some, choose-ready, choose-terminal, choose-weight, best-chosen, after_more, brings-onwards}
use Rattle.choice.specs.Choice.{Completing, LowestBy}
use Rattle.choice.specs.Choosing.{Choosing, Chose}
use Rattle.choice.specs.Taking.{Stacked, Taken}

-- x is the next symbol of the sentence
pub record Picked (σ : Scale) (rank : ℕ → ℕ) (B : Tables) (P : List ℕ → Type 0) (word st : List ℕ) (left x : ℕ) : Type 0 where
  pub positive : 1 ≤ x
  pub terminal : x < B.terminals
  pub ready : Ready B st x
  pub chosen : Chosen σ rank P (word ++ (x ∷ [])) (left - weight σ x)
  pub affords : weight σ x ≤ left

-- a stack, bottom first, with a state on top
top-first : (B : Tables) (stack : List ℕ) (depth : ℕ) → Stacked B.states stack depth → depth ≤ length stack
    → (q : ℕ) × (st : List ℕ) × (reverse (take depth stack) ≡ q ∷ st) × (q < B.states)
top-first B stack depth s h =
    let last : depth ≡ suc (depth - 1) = omega (arith, s.some) in
    let inside : depth - 1 < length stack = omega (arith, s.some) in
    let split : take depth stack ≡ take (depth - 1) stack ++ (get_or stack (depth - 1) 0 ∷ []) = ap (λ (n : ℕ). take n stack) last ∙ take-suc stack (depth - 1) 0 inside in (
      get_or stack (depth - 1) 0,
      reverse (take (depth - 1) stack),
      ap reverse split ∙ reverse-append (take (depth - 1) stack) (get_or stack (depth - 1) 0 ∷ []),
      s.states (depth - 1) (omega (arith, s.some)),
    )

module _ {σ : Scale} {rank : ℕ → ℕ} {B : Tables} {claim : Claims} {z : ℕ} {Goal : ℕ → List ℕ → Type 0} {E : List ℕ → ℕ → ℕ → ℕ} {begun : List ℕ} {n depth k left : ℕ} {lent buffer stack : List ℕ}
    (i : InRange B) (c : Guides σ B claim z Goal E) (t : Choosing σ rank B (Brings B z Goal begun) begun n lent buffer stack depth k left)
    (some : 1 ≤ left) (hr : left ≤ σ.limit) (fits : depth ≤ length stack) where
  tells-here : {x : ℕ} → x < B.terminals → Completing σ B claim E (take depth stack) left x ↔ WithinOf σ (LandsIn B z Goal (reverse (take depth stack))) x left
  tells-here hx = let (q, st, e, hq) = top-first B stack depth t.stacked fits in rw e (c.tells hq hx hr)

  -- some terminal passes the test ..
  pick_some : (x : ℕ) × ((1 ≤ x) × (x < B.terminals)) × Completing σ B claim E (take depth stack) left x
  pick_some =
      let o = brings-onwards t.word t.after in
      let (x, k) = choose-some o t.chosen some in
      let h = choose-terminal o t.chosen some i x k in
      (x, h, (tells-here h.1).1 k)

  -- .. and the lowest by rank that does is right
  pub choosing-pick : {x m : ℕ} → B.terminals ≡ m → LowestBy rank (Completing σ B claim E (take depth stack) left) m x
      → Picked σ rank B (Brings B z Goal begun) t.word (reverse (take depth stack)) left x
  choosing-pick {x} {m} all l =
      let o = brings-onwards t.word t.after in
      let (y, h, k) = pick_some in
      let below : x < m = (l.first y h.0 (omega (arith, all)) k).0 in
      let hx : x < B.terminals = omega (arith, all) in
      let within = (tells-here hx).0 (l.found below).1 in
      record {
        positive = (l.found below).0;
        terminal = hx;
        ready = choose-ready o t.chosen some x within;
        chosen = choose o t.chosen some x within (λ y w. let (one, hy) = choose-terminal o t.chosen some i y w in (l.first y one (omega (arith, all)) ((tells-here hy).1 w)).1);
        affords = choose-weight o t.chosen some x within;
      }

-- ---- the loop
pub begun-length : (depth : ℕ) (stack : List ℕ) → depth ≤ length stack → length (reverse (take depth stack)) ≡ depth
begun-length depth stack h = length-reverse (take depth stack) ∙ length-take-le depth stack h

module _ {σ : Scale} {rank : ℕ → ℕ} {B : Tables} {P : List ℕ → Type 0} {n : ℕ} {lent : List ℕ} where
  pub choosing-begun : {stack : List ℕ} {depth : ℕ} → Stacked B.states stack depth → depth ≤ length stack → Exact σ P n → n ≤ σ.limit
      → Choosing σ rank B P (reverse (take depth stack)) n lent lent stack depth 0 n
  choosing-begun {stack} {depth} s l x hn = record {
    word = [];
    count = refl;
    paid = omega arith;
    front = refl;
    chosen = chosen_none x hn;
    after = λ rest. done;
    stacked = s;
    low = omega (arith, begun-length depth stack l);
  }

  module _ {begun : List ℕ} where
    pub choosing-more : {buffer stack new : List ℕ} {depth k left x r : ℕ} (t : Choosing σ rank B P begun n lent buffer stack depth k left)
        → Picked σ rank B P t.word (reverse (take depth stack)) left x → Taken B x stack depth new r → k < length lent
        → Choosing σ rank B P begun n lent (set buffer k x) new r (k + 1) (left - weight σ x)
    choosing-more {depth} {k} {x} t p a fits = record {
      word = t.word ++ (x ∷ []);
      count = rw length-append (omega (arith, t.count));
      paid = omega (arith, t.paid, p.affords, cost-append σ t.word (x ∷ []));
      front = rw (t.front, ← t.count) (over-more t.word (x ∷ []) lent (omega (arith, t.count)));
      chosen = p.chosen;
      after = after_more t.word t.after a.run;
      stacked = a.stacked;
      low = omega (arith, t.low, a.most);
    }

    pub choosing-done : {buffer stack : List ℕ} {depth k left : ℕ} → Choosing σ rank B P begun n lent buffer stack depth k left → left ≡ 0 → n ≤ σ.limit → Chose σ rank P n lent buffer
    choosing-done t none hn = record {
      word = t.word;
      paid = omega (arith, t.paid);
      front = t.front;
      answer = best-chosen (rw none at t.chosen) (omega (arith, t.paid));
    }

-- ---- the same words
module _ {σ : Scale} {P Q : List ℕ → Type 0} {n : ℕ} (f : (w : List ℕ) → P w ↔ Q w) where
  pub exact-map : Exact σ P n → Exact σ Q n
  exact-map e = record { least = λ w q. e.least w ((f w).1 q); attained = attained-map σ (λ w p. (f w).0 p) e.attained }

  pub chose-map : {rank : ℕ → ℕ} {lent buffer : List ℕ} → Chose σ rank P n lent buffer → Chose σ rank Q n lent buffer
  chose-map {rank} c = record { word = c.word; paid = c.paid; front = c.front; answer = best-map σ rank f (Sentence c.word) c.answer }

-- ---- from the start
pub start-stacked : {s : ℕ} {stack : List ℕ} → 0 < s → get_or stack 0 0 ≡ 0 → Stacked s stack 1
start-stacked hs e = record { some = omega arith; states = λ k h. let z : k ≡ 0 = omega (arith, h) in rw (z, e) hs }

pub start-stack : (stack : List ℕ) → 1 ≤ length stack → get_or stack 0 0 ≡ 0 → reverse (take 1 stack) ≡ 0 ∷ []
start-stack stack h e = ap reverse (take-suc stack 0 0 h) ∙ rw e
