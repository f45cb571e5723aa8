-- Laws of taking in a symbol: what the search finds, and what is pushed on it. Assumes nothing.
use Rattle.std.specs.Prelude.{List, [], ◌∷◌, reverse, ◌≡◌, ℕ, ◌+◌, ◌-◌, ◌≤◌, ◌<◌, length, get_or, take, set}
use Rattle.std.proofs.lemmas.List.{reverse-append}
use Rattle.std.proofs.Common.{sym, ◌∙◌, ap, add-one, arith, length-take-le, take-take, take-suc-set, get_or-take, get_or-set_same, get_or-set_other}
use Rattle.std.proofs.Math.Decide.{dec_lt, ℕ_discrete}
use Rattle.book.specs.Tables.{Tables}
use Rattle.book.specs.TablesLaws.{InRange}
use Rattle.machine.specs.Machine.{Steps, done, then}
use Rattle.machine.specs.MachineLaws.{◌⊕◌}
use Rattle.walk.specs.Scale.{plain}
use Rattle.walk.specs.Claims.{Claims, Witnessed}
use Rattle.search.specs.Search.{SearchReached, top_of}
use Rattle.search.specs.SearchLaws.{top-is, reached-still}
use Rattle.advance.specs.Nearest.{far}
use Rattle.advance.specs.Push.{stacked, Advanced}
use Rattle.choice.specs.AdvanceLaws.{Still, stands-state, plus-rest}
use Rattle.choice.specs.Taking.{Stacked, Taken}

-- what the search at no cost has found: the part of the stack that is kept, and the state on it
pub record Spot (B : Tables) (x : ℕ) (to stack : List ℕ) (depth kept g : ℕ) : Type 0 where
  pub low : kept < depth
  pub state : g < B.states
  pub near : get_or to g 0 < far
  pub run : (v : List ℕ) → Steps B (reverse (take depth stack)) (x ∷ v) (g ∷ reverse (take kept stack)) (x ∷ v)

module _ {B : Tables} {claim : Claims} {x depth : ℕ} {to stack : List ℕ} {G : ℕ → ℕ → ℕ} (i : InRange B) (w : Witnessed plain B claim) (f : Still B x to G)
    (s : Stacked B.states stack depth) (fits : depth ≤ length stack) where
  pub spot : {kept g : ℕ} → SearchReached plain B claim (λ st. G) (take depth stack) x 0 kept g → Spot B x to stack depth kept g
  spot {kept} {g} a =
      let long : length (take depth stack) ≡ depth = length-take-le depth stack fits in
      let low : kept < depth = omega (arith, a.kept) in
      let top : top_of (take depth stack) < B.states =
      rw (top-is (take depth stack) a.some, long, get_or-take depth stack (depth - 1) 0 (omega (arith, s.some))) (s.states (depth - 1) (omega (arith, s.some))) in
      let (free, run) = reached-still w a in
      let state = stands-state i a.stands top in
      record {
        low = low;
        state = state;
        near = f.off g state (plus-rest 0 (G g x) free);
        run = λ v. rw (take-take kept depth stack (omega arith)) at (run v);
      }

-- what is pushed on it makes the stack after x
module _ {B : Tables} {x depth kept g r : ℕ} {to stack new : List ℕ} (s : Stacked B.states stack depth) (fits : depth + 128 ≤ length stack) (p : Spot B x to stack depth kept g)
    (bound : get_or to g 0 ≤ 127) (a : Advanced B x to (kept + 1) (set stack kept g) r new) where
  placed : get_or (set stack kept g) kept 0 ≡ g
  placed = get_or-set_same stack kept g 0 (omega (arith, p.low))

  -- the cells up to the state on top are what they were
  same-below : (k : ℕ) → k < kept + 1 → get_or new k 0 ≡ get_or (set stack kept g) k 0
  same-below k h = sym (get_or-take (kept + 1) new k 0 h) ∙ ap (λ (l : List ℕ). get_or l k 0) a.below ∙ get_or-take (kept + 1) (set stack kept g) k 0 h

  states-of : (k : ℕ) → k < r → get_or new k 0 < B.states
  states-of k h = go (dec_lt k kept) (ℕ_discrete k kept)
    where
      go : Dec (k < kept) → Dec (k ≡ kept) → get_or new k 0 < B.states
      go (yes l) d =
          let same : get_or new k 0 ≡ get_or stack k 0 = same-below k (omega arith) ∙ get_or-set_other stack kept k g 0 (λ e. omega (arith, e, l)) in
          rw same (s.states k (omega (arith, p.low)))
      go (no l) (yes e) = rw (e, same-below kept (omega arith), placed) p.state
      go (no l) (no e) = a.states k (omega arith) h

  stack_is : reverse (take (kept + 1) (set stack kept g)) ≡ g ∷ reverse (take kept stack)
  stack_is = rw (add-one kept, take-suc-set stack kept g (omega (arith, p.low))) (reverse-append (take kept stack) (g ∷ []))

  pub taking : length new ≡ length stack → Taken B x stack depth new r
  taking size =
      let top : kept + 1 - 1 ≡ kept = omega arith in
      let count : r ≡ kept + 1 + get_or to g 0 + 1 = rw (top, placed) at a.depth_is in
      record {
        stacked = record { some = omega arith; states = states-of };
        most = omega (arith, p.low);
        size = size;
        run = λ v. p.run v ⊕ rw stack_is at (a.shifted.reduced v) ⊕ then (a.shifted.shift v) done;
      }

-- the part of the stack that is handed to the search
pub part-states : {s depth : ℕ} {stack : List ℕ} → Stacked s stack depth → depth ≤ length stack
    → (k : ℕ) → k < length (take depth stack) → get_or (take depth stack) k 0 < s
part-states {s} {depth} {stack} t fits k h =
    let l : k < depth = omega (arith, length-take-le depth stack fits) in
    rw (get_or-take depth stack k 0 l) (t.states k l)

-- the state on top of the part that is kept
pub placed-top : (stack : List ℕ) (kept g : ℕ) → kept < length stack → get_or (set stack kept g) (kept + 1 - 1) 0 ≡ g
placed-top stack kept g h = let top : kept + 1 - 1 ≡ kept = omega arith in rw top (get_or-set_same stack kept g 0 h)
