-- Laws of what is refused before a run. Assumes nothing.
use Rattle.number.specs.declared.cause.Cause.{Cause}
use Rattle.std.specs.Prelude.{Result, Ok, Err, ◌≡◌, refl, Bool, true, false, cond, ◌&&◌, List, [], ◌∷◌, ℕ, zero, suc, ◌+◌, ◌≤◌, ◌<◌, ltb, leb, length, get_or, drop}
use Rattle.std.proofs.Common.{sym, ◌∙◌, ap, ap₂, not-suc-le-zero, add-one, arith, lt-ltb, le-ltb, le-leb, ltb-false, leb-false, drop_of_length-le, drop-cons}
use Rattle.std.proofs.Math.Bool.{and-false}
use Rattle.std.proofs.Math.Decide.{dec_le, dec_lt}
use Rattle.std.proofs.lemmas.Bool.{lt-leb}
use Rattle.number.specs.declared.cause.Refusal.{Refusal}
use Rattle.book.specs.Book.{of_cells, checked}
use Rattle.book.specs.Call.{steps, admits}
use Rattle.book.specs.CallLaws.{call-admitted, steps_alike}
use Rattle.book.specs.Tables.{Tables, tables_of}
use Rattle.book.specs.TablesLaws.{Accepted}
use Rattle.book.specs.declared.Sizes.{Sizes}
use Rattle.forms.specs.AlikeLaws.{Alike}
use Rattle.forms.proofs.AlikeLaws.{alike-tables, alike-sizes}
use Rattle.machine.specs.Run.{runs, sound_prefix, run_refusals, stack_left, running}
use Rattle.machine.specs.Stack.{RanTo}
use Rattle.machine.specs.declared.Ending.{Ending}

-- ---- the first symbol that is refused
module _ (t : ℕ) (w : List ℕ) (i : ℕ) where
  pub sound_more : i < length w → 1 ≤ get_or w i 0 → get_or w i 0 < t → sound_prefix t (drop i w) ≡ suc (sound_prefix t (drop (i + 1) w))
  sound_more h l b = rw (add-one, drop-cons w i 0 h, le-leb 1 (get_or w i 0) l, lt-ltb (get_or w i 0) t b)

  pub sound-zero : i < length w → get_or w i 0 ≡ 0 → sound_prefix t (drop i w) ≡ 0
  sound-zero h l = rw (drop-cons w i 0 h, lt-leb 1 (get_or w i 0) (omega arith))

  pub sound-high : i < length w → t ≤ get_or w i 0 → sound_prefix t (drop i w) ≡ 0
  sound-high h b = rw (drop-cons w i 0 h, le-ltb (get_or w i 0) t b, and-false)

  pub sound_none : length w ≤ i → sound_prefix t (drop i w) ≡ 0
  sound_none h = rw (drop_of_length-le w h)

-- a sentence with none has terminals only
pub sound-head : (t a : ℕ) (w : List ℕ) → sound_prefix t (a ∷ w) ≡ suc (length w) → (1 ≤ a) × (a < t) × (sound_prefix t w ≡ length w)
sound-head t a w e = go (dec_le 1 a) (dec_lt a t)
  where
    go : Dec (1 ≤ a) → Dec (a < t) → (1 ≤ a) × (a < t) × (sound_prefix t w ≡ length w)
    go (yes l) (yes b) = (l, b, omega (arith, rw (le-leb 1 a l, lt-ltb a t b) at e))
    go (yes l) (no b) = absurd (omega (arith, rw (le-ltb a t (omega arith), and-false) at e))
    go (no l) b = absurd (omega (arith, rw (lt-leb 1 a (omega arith)) at e))

pub sound-at : (t : ℕ) (w : List ℕ) (i : ℕ) → sound_prefix t w ≡ length w → i < length w → get_or w i 0 < t
sound-at t [] i e h = absurd (not-suc-le-zero h)
sound-at t (a ∷ w) zero e h = (sound-head t a w e).1
sound-at t (a ∷ w) (suc i) e h = sound-at t w i (sound-head t a w e).2 (omega arith)

pub sound-all : (t : ℕ) (w : List ℕ) → ((i : ℕ) → i < length w → (1 ≤ get_or w i 0) × (get_or w i 0 < t)) → sound_prefix t w ≡ length w
sound-all t [] f = refl
sound-all t (a ∷ w) f =
    let (some, below) = f 0 (omega arith) in
    rw (le-leb 1 a some, lt-ltb a t below) (ap suc (sound-all t w (λ i h. f (suc i) (omega arith))))

sound-most : (t : ℕ) (w : List ℕ) → sound_prefix t w ≤ length w
sound-most t [] = omega arith
sound-most t (a ∷ w) = go (leb 1 a && ltb a t) (sound-most t w)
  where
    go : (b : Bool) → sound_prefix t w ≤ length w → cond b (suc (sound_prefix t w)) 0 ≤ suc (length w)
    go true h = omega arith
    go false h = omega arith

-- ---- what is admitted
pub record RunAdmitted (w : List ℕ) (z room : ℕ) (found : Result Sizes Refusal) (d : Sizes) : Type 0 where
  pub book : found ≡ Ok d
  pub few : length w ≤ 1000
  pub terminals : sound_prefix d.t w ≡ length w
  pub lookahead : z < d.t
  pub enough : 1024 ≤ room

pub admitted-valid : (w : List ℕ) (z room : ℕ) (found : Result Sizes Refusal) (d : Sizes) → admits found (run_refusals w z room) ≡ Ok d → RunAdmitted w z room found d
unfolding run_refusals
admitted-valid w z room found d e =
    let (book, (few, (terminals, (lookahead, (enough, end))))) = call-admitted found (run_refusals w z room) d e in
    record {
      book = book;
      few = ltb-false _ _ few;
      terminals = omega (arith, sound-most d.t w, ltb-false (sound_prefix d.t w) (length w) terminals);
      lookahead = leb-false _ _ lookahead;
      enough = ltb-false _ _ enough;
    }

-- ---- the call
module _ (cells w : List ℕ) (z : ℕ) (lent : List ℕ) where
  pub run-refused : (r : Refusal) → admits (checked (of_cells cells)) (run_refusals w z (length lent)) ≡ Err r → (Err r, lent) ≡ running cells w z lent
  unfolding running
  run-refused r e = rw (running, e)

  pub run-admitted : (d : Sizes) {r : Ending} {out : List ℕ} → admits (checked (of_cells cells)) (run_refusals w z (length lent)) ≡ Ok d
      → RanTo (runs (tables_of cells) z w 0 (0 ∷ [])) lent r out → (Ok r, out) ≡ running cells w z lent
  unfolding running
  run-admitted d e (f, g) = rw (running, e, f, g)

-- ---- a run does not depend on form and ranks
abbrev told_run : Tables → List ℕ → ℕ → List ℕ → Result Sizes Refusal → Result Ending Refusal × List ℕ
told_run B w z lent found =
    elim found [ Err r ↦ (Err r, lent) | Ok x ↦ let (end, st) = runs B z w 0 (0 ∷ []) in (Ok end, stack_left st lent) ]

run-told : (d : Sizes) (cells w : List ℕ) (z : ℕ) (lent : List ℕ) → Accepted d cells
    → running cells w z lent ≡ told_run (tables_of cells) w z lent (steps (Ok d) (run_refusals w z (length lent) d))
unfolding running
run-told d cells w z lent e = rw (running, e)

pub run-alike : (d e : Sizes) (cells other : List ℕ) → Alike d e cells other → (w : List ℕ) (z : ℕ) (lent : List ℕ) → running cells w z lent ≡ running other w z lent
unfolding run_refusals
run-alike d e cells other a w z lent =
    let refusals : run_refusals w z (length lent) d ≡ run_refusals w z (length lent) e = ap (run_refusals w z (length lent)) (alike-sizes d e cells other a) in
    run-told d cells w z lent a.first
    ∙ ap₂ (λ (B : Tables) (more : List (Bool × Cause × ℕ)). told_run B w z lent (steps (Ok d) more)) (alike-tables d e cells other a) refusals
    ∙ steps_alike (run_refusals w z (length lent) e) d e (told_run (tables_of other) w z lent) refl
    ∙ sym (run-told e other w z lent a.second)
