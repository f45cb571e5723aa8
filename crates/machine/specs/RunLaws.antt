-- Laws of a run: it is the unlimited machine, step by step, up to where it ends. Assumes nothing.
use Rattle.std.specs.Prelude.{◌≡◌, Bool, ℕ, zero, suc, ◌+◌, ◌≤◌, length, drop, get_or}
use Rattle.std.proofs.Math.Path.{refl, sym}
use Rattle.std.proofs.Common.{◌∙◌, zero-add, add-zero, add-suc, suc-add, arith}
use Rattle.std.proofs.Math.Bool.{true, false}
use mathlib.Core.List.{List, [], ◌∷◌, ◌++◌}
use Rattle.std.proofs.Math.Dec.{ltb}
use Rattle.std.proofs.Math.Seq.{drop-length}
use Rattle.book.specs.Tables.{Tables}
use Rattle.book.specs.declared.Action.{Action}
use Rattle.book.specs.declared.Action.TheVariants.{Error as Fail, Accept, Shift, Reduce}
use Rattle.machine.specs.Machine.{Move, accepts, fails, breaks, shifts, reduces, goes, lands, does, next, Step, shift, reduce, Steps, done, then, Terminals, none, more, Reaches}
use Rattle.machine.specs.MachineLaws.{◌⊕◌, clash, next-empty}
use Rattle.machine.specs.AdmissionLaws.{sound-head}
use Rattle.machine.specs.ReducingLaws.{turn-stops, turn-shift}
use Rattle.machine.specs.Run.{Limited, stops, to_shift, stopped, stop_of, reducing, runs, sound_prefix}
use Rattle.machine.specs.declared.Ending.{Ending}
use Rattle.machine.specs.declared.Ending.TheVariants.{Accepted, Error, Broken, Passed, Deep, Spinning}
use Rattle.machine.specs.declared.Stop.{Stop}

-- a shift or a reduction, which can be done
pub data Goes : Move → Type 0 where
  by-shift : {s : ℕ} → Goes (shifts s)
  by-reduction : {new : List ℕ} → Goes (reduces new)

-- what the unlimited machine does next where the run of a sentence of n symbols ends
abbrev pub NextMove : Move → ℕ → Ending → Type 0
NextMove m n (Accepted stop) = m ≡ accepts
NextMove m n (Error stop) = m ≡ fails
NextMove m n (Broken stop) = m ≡ breaks
NextMove m n (Passed stop) = (s : ℕ) × (m ≡ shifts s) × (stop.taken ≡ n)
NextMove m n (Deep stop) = Goes m
NextMove m n (Spinning stop) = Goes m

-- ---- the reductions before the symbol a, which u follows
abbrev pub After : Tables → ℕ → ℕ → List ℕ → ℕ → List ℕ → Limited 0 → Type 0
After B a taken u n st₀ (stops e st) = Steps B st₀ (a ∷ u) st (a ∷ u) × (stop_of e ≡ stopped st a taken) × NextMove (next B st a) n e
After B a taken u n st₀ (to_shift s st) = Steps B st₀ (a ∷ u) st (a ∷ u) × (next B st a ≡ shifts s)

module _ (B : Tables) (a taken : ℕ) (u : List ℕ) (n : ℕ) where
  after-step : {st new : List ℕ} → Step B st (a ∷ u) new (a ∷ u) → (o : Limited 0) → After B a taken u n new o → After B a taken u n st o
  after-step x (stops e st) (r, s, m) = (then x r, s, m)
  after-step x (to_shift s st) (r, m) = (then x r, m)

  after-move : (left : ℕ) (st : List ℕ) (m : Move) → next B st a ≡ m
      → ((new : List ℕ) → next B st a ≡ reduces new → After B a taken u n st (reducing B a taken left st)) → After B a taken u n st (reducing B a taken left st)
  after-move left st accepts e f = rw (← turn-stops B a taken st left accepts (Accepted (stopped st a taken)) (sym e) (λ l. refl)) (done, refl, e)
  after-move left st fails e f = rw (← turn-stops B a taken st left fails (Error (stopped st a taken)) (sym e) (λ l. refl)) (done, refl, e)
  after-move left st breaks e f = rw (← turn-stops B a taken st left breaks (Broken (stopped st a taken)) (sym e) (λ l. refl)) (done, refl, e)
  after-move left st (shifts s) e f = rw (← turn-shift B a taken st left s (sym e)) (done, e)
  after-move left st (reduces new) e f = f new e

  after_none : (st new : List ℕ) → next B st a ≡ reduces new → After B a taken u n st (reducing B a taken 0 st)
  unfolding reducing
  after_none st new e = let g : Goes (next B st a) = rw e by-reduction in rw e (done, refl, g)

  after_more : (k : ℕ) (st new : List ℕ) → next B st a ≡ reduces new → After B a taken u n new (reducing B a taken k new) → (b : Bool) → ltb 1024 (length new) ≡ b
      → After B a taken u n st (reducing B a taken (suc k) st)
  unfolding reducing
  after_more k st new e x true t = let g : Goes (next B st a) = rw e by-reduction in rw (reducing, e, t) (done, refl, g)
  after_more k st new e x false t = rw (reducing, e, t) (after-step (reduce e) (reducing B a taken k new) x)

  pub after-reducing : (left : ℕ) (st : List ℕ) → After B a taken u n st (reducing B a taken left st)
  after-reducing zero st = after-move zero st (next B st a) refl (after_none st)
  after-reducing (suc k) st = after-move (suc k) st (next B st a) refl (λ new e. after_more k st new e (after-reducing k new) (ltb 1024 (length new)) refl)

-- ---- the symbols: how the run goes on from a stack with v still to come and k taken in
record Ends (B : Tables) (z : ℕ) (v : List ℕ) (k : ℕ) (st₀ : List ℕ) (o : Ending × List ℕ) : Type 0 where
  pub more : ℕ
  pub rest : List ℕ
  pub count : (stop_of o.0).taken ≡ k + more
  pub within : more ≤ length v
  pub run : Steps B st₀ (v ++ (z ∷ [])) o.1 (drop more v ++ (z ∷ []))
  pub looked : drop more v ++ (z ∷ []) ≡ (stop_of o.0).symbol ∷ rest
  pub top : (stop_of o.0).state ≡ get_or o.1 0 0
  pub move : NextMove (next B o.1 (stop_of o.0).symbol) (k + length v) o.0

module _ (B : Tables) (z k : ℕ) where
  -- it ends where it is
  here : (a : ℕ) (u v st₀ st : List ℕ) (e : Ending) → v ++ (z ∷ []) ≡ a ∷ u → Steps B st₀ (a ∷ u) st (a ∷ u) → stop_of e ≡ stopped st a k
      → NextMove (next B st a) (k + length v) e → Ends B z v k st₀ (e, st)
  here a u v st₀ st e i r s n = record {
    more = 0;
    rest = u;
    count = rw s (omega arith);
    within = omega arith;
    run = rw i r;
    looked = rw s i;
    top = rw s refl;
    move = rw s n;
  }

  ends_last : (st₀ : List ℕ) (o : Limited 0) → reducing B z k 4096 st₀ ≡ o → After B z k [] (k + 0) st₀ o → Ends B z [] k st₀ (runs B z [] k st₀)
  unfolding runs
  ends_last st₀ (stops e st) i (r, s, n) = rw (runs, i) (here z [] [] st₀ st e refl r s n)
  ends_last st₀ (to_shift s st) i (r, n) = rw (runs, i) (here z [] [] st₀ st (Passed (stopped st z k)) refl r refl (s, n, sym (add-zero k)))

  module _ (a : ℕ) (w : List ℕ) where
    -- .. or after the symbol a
    later : (st₀ st : List ℕ) (s : ℕ) (o : Ending × List ℕ) → Steps B st₀ (a ∷ w ++ (z ∷ [])) st (a ∷ w ++ (z ∷ [])) → next B st a ≡ shifts s
        → Ends B z w (suc k) (s ∷ st) o → Ends B z (a ∷ w) k st₀ o
    later st₀ st s o r n x = record {
      more = suc x.more;
      rest = x.rest;
      count = omega (arith, x.count);
      within = omega (arith, x.within);
      run = r ⊕ then (shift n) x.run;
      looked = x.looked;
      top = x.top;
      move = rw (add-suc, ← suc-add) x.move;
    }

    ends-first : (st₀ : List ℕ) → ((st : List ℕ) → Ends B z w (suc k) st (runs B z w (suc k) st)) → (o : Limited 0) → reducing B a k 4096 st₀ ≡ o
        → After B a k (w ++ (z ∷ [])) (k + suc (length w)) st₀ o → Ends B z (a ∷ w) k st₀ (runs B z (a ∷ w) k st₀)
    unfolding runs
    ends-first st₀ f (stops e st) i (r, s, n) = rw (runs, i) (here a (w ++ (z ∷ [])) (a ∷ w) st₀ st e refl r s n)
    ends-first st₀ f (to_shift s st) i (r, n) = go (ltb 1024 (length (s ∷ st))) refl
      where
        go : (b : Bool) → ltb 1024 (length (s ∷ st)) ≡ b → Ends B z (a ∷ w) k st₀ (runs B z (a ∷ w) k st₀)
        go true t = rw (runs, i, t) (here a (w ++ (z ∷ [])) (a ∷ w) st₀ st (Deep (stopped st a k)) refl r refl (rw n by-shift))
        go false t = rw (runs, i, t) (later st₀ st s (runs B z w (suc k) (s ∷ st)) r n (f (s ∷ st)))

runs-ends : (B : Tables) (z : ℕ) (v : List ℕ) (k : ℕ) (st : List ℕ) → Ends B z v k st (runs B z v k st)
runs-ends B z [] k st = ends_last B z k st (reducing B z k 4096 st) refl (after-reducing B z k [] (k + 0) 4096 st)
runs-ends B z (a ∷ w) k st =
    ends-first B z k a w st (λ new. runs-ends B z w (suc k) new) (reducing B a k 4096 st) refl
    (after-reducing B a k (w ++ (z ∷ [])) (k + suc (length w)) 4096 st)

-- ---- the run of w, then z, ends in the stack st: the unlimited machine gets there, and what it would do next is as the ending says
pub record EndsAt (B : Tables) (w : List ℕ) (z : ℕ) (e : Ending) (st : List ℕ) : Type 0 where
  pub rest : List ℕ
  pub within : (stop_of e).taken ≤ length w
  pub run : Steps B (0 ∷ []) (w ++ (z ∷ [])) st (drop (stop_of e).taken w ++ (z ∷ []))
  pub looked : drop (stop_of e).taken w ++ (z ∷ []) ≡ (stop_of e).symbol ∷ rest
  pub top : (stop_of e).state ≡ get_or st 0 0
  pub move : NextMove (next B st (stop_of e).symbol) (length w) e

pub run_ends : (B : Tables) (w : List ℕ) (z : ℕ) → EndsAt B w z (runs B z w 0 (0 ∷ [])).0 (runs B z w 0 (0 ∷ [])).1
run_ends B w z =
    let x = runs-ends B z w 0 (0 ∷ []) in
    let e : (stop_of (runs B z w 0 (0 ∷ [])).0).taken ≡ x.more = x.count ∙ zero-add x.more in
    record { rest = x.rest; within = rw e x.within; run = rw e x.run; looked = rw e x.looked; top = x.top; move = rw zero-add at x.move }

-- ---- a run that ends as error with all of w in shows a failing pair
module _ (B : Tables) (q a : ℕ) (st : List ℕ) where
  goes-fail : (g : ℕ) (stack : List ℕ) → goes g stack ≡ fails → ⊥
  goes-fail zero stack e = clash cc
  goes-fail (suc n) stack e = clash cc

  lands-fail : (X : ℕ) (stack : List ℕ) → lands B X stack ≡ fails → ⊥
  lands-fail X [] e = clash cc
  lands-fail X (t ∷ stack) e = goes-fail (B.goto t X) (t ∷ stack) e

  does-fail : (x : Action) → does B (q ∷ st) x ≡ fails → x ≡ Fail
  does-fail Fail e = refl
  does-fail Accept e = cc
  does-fail (Shift t) e = cc
  does-fail (Reduce p) e = absurd (lands-fail (B.lhs p) (drop (B.len p) (q ∷ st)) e)

  next-fail : next B (q ∷ st) a ≡ fails → B.act q a ≡ Fail
  unfolding next
  next-fail e = does-fail (B.act q a) e

pub sound-terminals : (B : Tables) (w : List ℕ) → sound_prefix B.terminals w ≡ length w → Terminals B w
sound-terminals B [] e = none
sound-terminals B (a ∷ w) e = let (some, below, rest) = sound-head B.terminals a w e in more some below (sound-terminals B w rest)

pub run-error : (B : Tables) (w : List ℕ) (z : ℕ) (stop : Stop) → (runs B z w 0 (0 ∷ [])).0 ≡ Error stop → stop.taken ≡ length w → Terminals B w
    → Reaches B w z stop.state × (B.act stop.state z ≡ Fail)
run-error B w z stop e all t = go (runs B z w 0 (0 ∷ [])).1 (rw e at (run_ends B w z))
  where
    go : (st : List ℕ) → EndsAt B w z (Error stop) st → Reaches B w z stop.state × (B.act stop.state z ≡ Fail)
    go [] x = absurd (clash (cc (x.move, next-empty B stop.symbol)))
    go (q ∷ st) x =
        let looked : z ∷ [] ≡ stop.symbol ∷ x.rest = rw (all, drop-length) at x.looked in
        let is : stop.symbol ≡ z = cc in
        let top : stop.state ≡ q = x.top in
        rw top (
          record { terminals = t; below = st; run = rw (all, drop-length) at x.run },
          next-fail B q z st (rw is at x.move),
        )
