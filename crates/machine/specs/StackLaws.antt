-- Laws of a stack in lent cells: pushed, cleared above, and one look at it. Assumes nothing.
use Rattle.std.specs.Prelude.{◌≡◌, refl, ℕ, zero, suc, ◌+◌, ◌-◌, ◌≤◌, ◌<◌, length, get_or, drop, take, set, replicate}
use Rattle.std.proofs.Common.{sym, ◌∙◌, ap, suc-add, zero-add, add-one, arith, ltb-true, length-set, length-append, drop_of_length-le, take-append-drop, get_or-set_same, get_or-set_other, take-suc, drop-set-lt, length-take-le, take_all}
use mathlib.Core.List.{List, [], ◌∷◌, ◌++◌, reverse, reverse-cons, append_assoc, append-nil}
use Rattle.std.proofs.Math.Decide.{ℕ_discrete}
use Rattle.std.proofs.Math.Seq.{paste}
use Rattle.std.proofs.lemmas.List.{length-replicate, replicate-append-replicate}
use Rattle.number.specs.Lent.{over}
use Rattle.number.specs.LentLaws.{over-more}
use Rattle.book.specs.Range.{allowed}
use Rattle.book.specs.Tables.{Tables, tables_of}
use Rattle.book.specs.TablesLaws.{Holds}
use Rattle.book.proofs.TablesLaws.{act-some, goto-some, left-side-below, lhs-inside, in-range}
use Rattle.book.specs.declared.Action.{Action}
use Rattle.book.specs.declared.Action.TheVariants.{Shift, Reduce}
use Rattle.book.specs.declared.Sizes.{Sizes}
use Rattle.machine.specs.Machine.{breaks, reduces, goes, lands, does, next}
use Rattle.machine.specs.MachineLaws.{clash}
use Rattle.machine.specs.Run.{stack_left}
use Rattle.machine.specs.Stack.{stack_of, StackIn, StackFrom}

-- ---- the stack in the cells
module _ (cells : List ℕ) where
  pub stack-length : (n : ℕ) → length (stack_of cells n) ≡ n
  stack-length zero = refl
  stack-length (suc n) = ap suc (stack-length n)

  pub stack_top : (n : ℕ) → 1 ≤ n → stack_of cells n ≡ get_or cells (n - 1) 0 ∷ stack_of cells (n - 1)
  stack_top n h = let k : n ≡ suc (n - 1) = omega arith in ap (stack_of cells) k

  drop-add : (k m : ℕ) → drop k (stack_of cells (k + m)) ≡ stack_of cells m
  drop-add zero m = rw zero-add
  drop-add (suc k) m = rw suc-add (drop-add k m)

  pub stack-drop : (k n : ℕ) → k ≤ n → drop k (stack_of cells n) ≡ stack_of cells (n - k)
  stack-drop k n h = let e : n ≡ k + (n - k) = omega arith in ap (λ (i : ℕ). drop k (stack_of cells i)) e ∙ drop-add k (n - k)

  pub stack-short : (k n : ℕ) → n ≤ k → drop k (stack_of cells n) ≡ []
  stack-short k n h = drop_of_length-le (stack_of cells n) {i = k} (rw stack-length h)

  -- a store above it changes nothing
  stack_set : (n i v : ℕ) → n ≤ i → stack_of (set cells i v) n ≡ stack_of cells n
  stack_set zero i v h = refl
  stack_set (suc n) i v h = rw (get_or-set_other cells i n v 0 (λ e. omega arith), stack_set n i v (omega arith))

  pub stack_push : (m v : ℕ) → m < length cells → stack_of (set cells m v) (m + 1) ≡ v ∷ stack_of cells m
  stack_push m v h = rw (add-one, get_or-set_same cells m v 0 h, stack_set m m v (omega arith))

  pub stack-reverse : (n : ℕ) → n ≤ length cells → reverse (stack_of cells n) ≡ take n cells
  stack-reverse zero h = refl
  stack-reverse (suc n) h =
      reverse-cons (get_or cells n 0) (stack_of cells n) ∙ rw (stack-reverse n (omega arith)) (sym (take-suc cells n 0 (omega arith)))

module _ {S : ℕ} {lent : List ℕ} where
  -- m states are kept and one is pushed
  pub push : {cells : List ℕ} {n m v : ℕ} → StackFrom S lent cells n → m ≤ n → m < 1024 → v < S → StackFrom S lent (set cells m v) (m + 1)
  push {cells} {n} {m} {v} s h l b =
      let t = s.stacked in
      record {
        stacked = record { some = omega arith; most = omega arith; room = rw length-set t.room; states = states t };
        rest = drop-set-lt 1024 cells m v l ∙ s.rest;
      }
    where
      states : StackIn S cells n → (j : ℕ) → j < m + 1 → get_or (set cells m v) j 0 < S
      states t j k = go (ℕ_discrete j m)
        where
          go : Dec (j ≡ m) → get_or (set cells m v) j 0 < S
          go (yes e) = rw (e, get_or-set_same cells m v 0 (omega (arith, t.room))) b
          go (no e) = rw (get_or-set_other cells m j v 0 e) (t.states j (omega arith))

-- ---- zeros above the stack: those from depth up to i are stored
pub record Cleared (lent cells : List ℕ) (depth i : ℕ) : Type 0 where
  pub from : depth ≤ i
  pub most : i ≤ 1024
  pub room : 1024 ≤ length lent
  pub front : cells ≡ over (take depth lent ++ replicate (i - depth) 0) lent

cleared-length : (lent : List ℕ) (depth i : ℕ) → depth ≤ i → i ≤ length lent → length (take depth lent ++ replicate (i - depth) 0) ≡ i
cleared-length lent depth i h l = rw (length-append, length-replicate, length-take-le depth lent (omega arith)) (omega arith)

module _ {lent : List ℕ} {depth : ℕ} where
  pub cleared-none : depth ≤ 1024 → 1024 ≤ length lent → Cleared lent lent depth depth
  cleared-none h l =
      let k : depth - depth ≡ 0 = omega arith in
      record {
        from = omega arith;
        most = h;
        room = l;
        front = rw (k, append-nil, length-take-le depth lent (omega arith)) (sym (take-append-drop depth lent));
      }

  pub cleared_more : {cells : List ℕ} {i : ℕ} → Cleared lent cells depth i → i < 1024 → Cleared lent (set cells i 0) depth (i + 1)
  cleared_more {cells} {i} c h =
      let k : i + 1 - depth ≡ (i - depth) + 1 = omega (arith, c.from) in
      let e = cleared-length lent depth i c.from (omega (arith, c.room)) in
      record {
        from = omega (arith, c.from);
        most = omega arith;
        room = c.room;
        front =
            ap (λ (x : List ℕ). set x i 0) c.front
            ∙ rw (k, ← replicate-append-replicate (i - depth) 1, ← append_assoc)
            (ap (λ (j : ℕ). set (over (take depth lent ++ replicate (i - depth) 0) lent) j 0) (sym e)
            ∙ over-more (take depth lent ++ replicate (i - depth) 0) (0 ∷ []) lent (rw e (omega (arith, c.room))));
      }

  -- .. or all at once
  pub cleared-filled : (cells : List ℕ) → depth ≤ 1024 → 1024 ≤ length lent → cells ≡ paste lent depth (replicate (1024 - depth) 0) (1024 - depth) → Cleared lent cells depth 1024
  cleared-filled cells h l e =
      let k : depth + (1024 - depth) ≡ 1024 = omega arith in
      record {
        from = h;
        most = omega arith;
        room = l;
        front =
            let zeros : List ℕ = replicate (1024 - depth) 0 in
            e ∙ rw (take_all (1024 - depth) zeros (rw length-replicate (omega arith)), cleared-length lent depth 1024 h l, k);
      }

  pub cleared-done : {cells : List ℕ} {i : ℕ} → Cleared lent cells depth i → 1024 ≤ i → cells ≡ stack_left (stack_of lent depth) lent
  cleared-done {cells} {i} c h =
      let k : i ≡ 1024 = omega (arith, c.most) in
      let e : length (take depth lent ++ replicate (1024 - depth) 0) ≡ 1024 = cleared-length lent depth 1024 (omega (arith, c.from)) c.room in
      rw (stack-reverse lent depth (omega (arith, c.from, c.room)), stack-length lent depth) (rw (k, e) at c.front)

-- ---- one look
-- the production of a reduction is one of the book's
pub stack-reduce-below : {d : Sizes} {cells : List ℕ} → Holds d cells → (q a p : ℕ) → (tables_of cells).act q a ≡ Reduce p → p < d.p
unfolding allowed
stack-reduce-below {d} h q a p e = ltb-true p d.p (act-some h q a (Reduce p) e (λ z. clash cc)).2

pub stack-left-below : {d : Sizes} {cells : List ℕ} → Holds d cells → (p : ℕ) → p < d.p → (tables_of cells).lhs p < d.n
stack-left-below h p l = rw (lhs-inside h p l) (left-side-below h p l)

pub stack-shift-below : {d : Sizes} {cells : List ℕ} → Holds d cells → (q a s : ℕ) → (tables_of cells).act q a ≡ Shift s → s < d.s
unfolding tables_of
stack-shift-below h q a s e = rw h.sizes ((in-range h).shifts q a s e).3

pub goto-below : {d : Sizes} {cells : List ℕ} → Holds d cells → (q X g : ℕ) → (tables_of cells).goto q X ≡ g → 1 ≤ g → g - 1 < d.s
goto-below h q X g e l = let i : g ≡ suc (g - 1) = omega arith in (goto-some h q X (g - 1) (e ∙ i)).2

module _ (B : Tables) (cells : List ℕ) (n : ℕ) where
  -- the action of the top state says what is next
  pub look-next : (a : ℕ) (x : Action) → 1 ≤ n → B.act (get_or cells (n - 1) 0) a ≡ x → next B (stack_of cells n) a ≡ does B (stack_of cells n) x
  unfolding next
  look-next a x h e = rw (stack_top cells n h, e)

  pub lands-short : (X k : ℕ) → n ≤ k → breaks ≡ lands B X (drop k (stack_of cells n))
  lands-short X k h = rw (stack-short cells k n h)

  lands-some : (X k g : ℕ) → k < n → B.goto (get_or cells (n - k - 1) 0) X ≡ g → lands B X (drop k (stack_of cells n)) ≡ goes g (stack_of cells (n - k))
  lands-some X k g h e = rw (stack-drop cells k n (omega arith), stack_top cells (n - k) (omega arith), e)

  pub lands-none : (X k : ℕ) → k < n → B.goto (get_or cells (n - k - 1) 0) X ≡ 0 → breaks ≡ lands B X (drop k (stack_of cells n))
  lands-none X k h e = sym (lands-some X k 0 h e)

  pub lands-goto : (X k g : ℕ) → k < n → 1 ≤ g → B.goto (get_or cells (n - k - 1) 0) X ≡ g
      → reduces ((g - 1) ∷ stack_of cells (n - k)) ≡ lands B X (drop k (stack_of cells n))
  lands-goto X k g h l e = let i : g ≡ suc (g - 1) = omega arith in sym (lands-some X k (suc (g - 1)) h (e ∙ i))
