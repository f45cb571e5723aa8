-- Laws of the lines of a state. Assumes nothing.
use Rattle.std.proofs.Math.Bool.{Bool}
use Rattle.std.specs.Prelude.{true, false, cond, not, ◌||◌, List, [], ◌++◌, ◌≡◌, refl, eqb, length}
use Rattle.std.proofs.lemmas.Bool.{false≢true}
use Rattle.std.proofs.Common.{sym, ◌∙◌, ap, add-one, eq-eqb, ne_eqb}
use Prim.Native.Nat.{ℕ, zero, suc, ◌+◌, ◌*◌, ◌≤◌, ◌<◌}
use Rattle.std.proofs.Math.Decide.{ℕ_discrete}
use native.Mathlib.Omega.{arith}
use Rattle.std.proofs.lemmas.List.Edits.{sets}
use Rattle.book.specs.Order.{place_in}
use Rattle.book.specs.Tables.{Tables, tables_of, rank_of}
use Rattle.book.specs.TablesLaws.{Accepted}
use Rattle.book.specs.declared.Sizes.{Sizes}
use Rattle.forms.proofs.AlikeLaws.{alike-tables, form2-alike, form2-ranks}
use Rattle.forms.specs.Forms.{in_form_1, in_form_2}
use Rattle.forms.specs.FormsLaws.{with_form}
use Rattle.forms.proofs.FormsLaws.{plain-holds, plain-tables}
use Rattle.forms.specs.OrderLaws.{ByRank}
use Rattle.layers.specs.CrossingLaws.{terminals-are}
use Rattle.walk.specs.Answer.{Outcome, Unreached, WordsOf}
use Rattle.walk.proofs.AnswerLaws.{best-one, answer-rank}
use Rattle.walk.specs.OrderLaws.{RankAlike}
use Rattle.walk.specs.Scale.{plain}
use Rattle.lengths.specs.Lengths.{BreakTable}
use Rattle.failing.specs.Failing.{is_error, Decides}
use Rattle.failing.specs.FailingLaws.{is-error, decides-one, breaks-decides}
use Rattle.failing.specs.Tests.{has_cost}
use Rattle.lines.specs.Line.{pair_line, HasLine, errs, breaks, RightIn, PairListed, state_lines, StateListed}
use Rattle.lines.specs.Parts.{listed_in, ActionListed}
use Rattle.text.specs.Put.{Put}
use Rattle.text.specs.PutLaws.{put_then}

-- which pairs have a line, by the costs of breaks
pub listed-decides : {d : Sizes} {cells broken : List ℕ} (s z : ℕ) → s < d.s → z < d.t → BreakTable plain d cells broken → Decides (listed_in cells broken s z) (HasLine (tables_of cells) s z)
listed-decides {cells = cells} {broken} s z hs hz y = (λ e. go (is_error ((tables_of cells).act s z)) refl e, λ l. back l)
  where
    go : (b : Bool) → b ≡ is_error ((tables_of cells).act s z) → (b || has_cost broken s z) ≡ true → HasLine (tables_of cells) s z
    go true i e = errs (is-error ((tables_of cells).act s z) (sym i))
    go false i e = let (w, b) = (breaks-decides s z hs hz y).0 e in breaks b

    some : (b : Bool) → has_cost broken s z ≡ true → (b || has_cost broken s z) ≡ true
    some true e = refl
    some false e = e

    back : HasLine (tables_of cells) s z → listed_in cells broken s z ≡ true
    back (errs e) = rw e refl
    back (breaks {w} b) = some (is_error ((tables_of cells).act s z)) ((breaks-decides s z hs hz y).1 (w, b))

-- the line of one action
module _ {rank : ℕ → ℕ} {B : Tables} {s z : ℕ} {lent : List ℕ} {at : ℕ} {listed : Bool} (d : Decides listed (HasLine B s z)) where
  pub action-none : listed ≡ false → ActionListed rank B s z lent at lent at
  action-none e = record {
    listed = listed;
    decides = d;
    outcome = Unreached;
    right = λ f. absurd (false≢true (sym e ∙ f));
    put = rw e (record { stored = refl; after = omega arith });
  }

  pub action-line : {buffer filled left : List ℕ} {next : ℕ} → listed ≡ true → PairListed rank B s z buffer lent at filled left next
      → ActionListed rank B s z lent at left next
  action-line e l = record { listed = listed; decides = d; outcome = l.outcome; right = λ f. l.right; put = rw e l.put }

-- lines of outcomes that agree where there is a line
lines_same : (s : ℕ) (p q : ℕ → Bool) (f g : ℕ → Outcome) (k : ℕ) → ((z : ℕ) → z < k → p z ≡ q z) → ((z : ℕ) → z < k → p z ≡ true → f z ≡ g z) → state_lines s p f k ≡ state_lines s q g k
unfolding state_lines
lines_same s p q f g zero alike same = refl
lines_same s p q f g (suc k) alike same =
    rw (lines_same s p q f g k (λ z l. alike z (omega arith)) (λ z l e. same z (omega arith) e), ← alike k (omega arith)) (ap (λ (bytes : List ℕ). state_lines s q g k ++ bytes) (go (p k) refl))
  where
    go : (b : Bool) → p k ≡ b → cond b (pair_line s k (f k)) [] ≡ cond b (pair_line s k (g k)) []
    go true e = ap (pair_line s k) (same k (omega arith) e)
    go false e = refl

-- one more
adding : {A : Type 0} → (ℕ → A) → ℕ → A → ℕ → A
adding f z o a = cond (eqb a z) o (f a)

adding-here : {A : Type 0} (f : ℕ → A) (z : ℕ) (o : A) → adding f z o z ≡ o
unfolding adding
adding-here f z o = rw (eq-eqb z z refl)

adding_other : {A : Type 0} (f : ℕ → A) (z : ℕ) (o : A) (a : ℕ) → ¬ (a ≡ z) → adding f z o a ≡ f a
unfolding adding
adding_other f z o a n = rw (ne_eqb a z n)

-- ---- one terminal after the other: those below z have their lines
pub record Lines (rank : ℕ → ℕ) (B : Tables) (s : ℕ) (lent : List ℕ) (at : ℕ) (now : List ℕ) (next z : ℕ) : Type 0 where
  pub size : length now ≡ length lent
  pub listed : ℕ → Bool
  pub decides : (a : ℕ) → a < z → Decides (listed a) (HasLine B s a)
  pub outcome : ℕ → Outcome
  pub right : (a : ℕ) → a < z → listed a ≡ true → RightIn rank B s a (outcome a)
  pub put : Put (state_lines s listed outcome z) lent at now next
  pub near : next ≤ at + 4096 * z

module _ {rank : ℕ → ℕ} {B : Tables} {s : ℕ} {lent : List ℕ} {at : ℕ} where
  pub lines_none : Lines rank B s lent at lent at 0
  unfolding state_lines
  lines_none = record {
    size = refl;
    listed = λ a. false;
    decides = λ a l. absurd (omega (arith, l));
    outcome = λ a. Unreached;
    right = λ a l e. absurd (omega arith);
    put = record { stored = refl; after = omega arith };
    near = omega arith;
  }

  pub lines_more : {now left : List ℕ} {next end z : ℕ} → Lines rank B s lent at now next z → length left ≡ length now → ActionListed rank B s z now next left end
      → end ≤ next + 4096 → Lines rank B s lent at left end (z + 1)
  unfolding state_lines
  lines_more {now} {left} {next} {end} {z} p e q h = record {
    size = e ∙ p.size;
    listed = tests;
    decides = λ a l. decides a l (ℕ_discrete a z);
    outcome = outcomes;
    right = λ a l f. right a l f (ℕ_discrete a z);
    put =
        rw (add-one, adding-here p.outcome z q.outcome, adding-here p.listed z q.listed, lines_same s tests p.listed outcomes p.outcome z (λ a l. adding_other p.listed z q.listed a (omega arith)) (λ a l f. adding_other p.outcome z q.outcome a (omega arith)))
        (put_then p.put q.put);
    near = omega (arith, p.near);
  }
    where
      tests : ℕ → Bool
      tests = adding p.listed z q.listed

      outcomes : ℕ → Outcome
      outcomes = adding p.outcome z q.outcome

      decides : (a : ℕ) → a < z + 1 → Dec (a ≡ z) → Decides (tests a) (HasLine B s a)
      decides a l (yes e) = rw (e, adding-here p.listed z q.listed) q.decides
      decides a l (no n) = rw (adding_other p.listed z q.listed a n) (p.decides a (omega arith))

      right : (a : ℕ) → a < z + 1 → tests a ≡ true → Dec (a ≡ z) → RightIn rank B s a (outcomes a)
      right a l f (yes e) = rw (e, adding-here p.outcome z q.outcome) (q.right (rw (e, adding-here p.listed z q.listed) at f))
      right a l f (no n) = rw (adding_other p.outcome z q.outcome a n) (p.right a (omega arith) (rw (adding_other p.listed z q.listed a n) at f))

  pub lines-done : {now : List ℕ} {next z : ℕ} → Lines rank B s lent at now next z → z ≡ B.terminals → StateListed rank B s lent at now next
  lines-done p e = record { listed = p.listed; decides = λ a l. p.decides a (rw e l); outcome = p.outcome; right = λ a l f. p.right a (rw e l) f; put = rw e at p.put }

-- at most one row of lines is right
pub state-one : {rank : ℕ → ℕ} {B : Tables} {s at next next' : ℕ} {lent left left' : List ℕ} → StateListed rank B s lent at left next → StateListed rank B s lent at left' next'
    → (left ≡ left') × (next ≡ next')
state-one {rank} {B} {s} {at} {lent = lent} x y =
    let alike : (z : ℕ) → z < B.terminals → x.listed z ≡ y.listed z = λ z l. decides-one (x.decides z l) (y.decides z l) in
    let same = lines_same s x.listed y.listed x.outcome y.outcome B.terminals alike (λ z l e.
    best-one plain rank (WordsOf (not (is_error (B.act s z))) B s z) (x.outcome z) (y.outcome z) (x.right z l e) (y.right z l (sym (alike z l) ∙ e))) in (
      x.put.stored ∙ ap (λ (bytes : List ℕ). sets lent at bytes) same ∙ sym y.put.stored,
      x.put.after ∙ ap (λ (bytes : List ℕ). at + length bytes) same ∙ sym y.put.after,
    )

-- ---- other ranks that agree on the terminals
listed-alike : {rank rank' : ℕ → ℕ} (B : Tables) {s at next : ℕ} {lent left : List ℕ} → RankAlike rank rank' B → StateListed rank B s lent at left next
    → StateListed rank' B s lent at left next
listed-alike B {s} f x = record {
  listed = x.listed;
  decides = x.decides;
  outcome = x.outcome;
  right = λ z l e. answer-rank (not (is_error (B.act s z))) plain B f s z (x.outcome z) (x.right z l e);
  put = x.put;
}

counted : (d : Sizes) (cells : List ℕ) → Accepted d cells → (tables_of cells).terminals ≡ d.t
counted d cells e = rw (← plain-tables d cells e) (terminals-are (plain-holds d cells e))

module _ (d : Sizes) (cells : List ℕ) (e : Accepted d cells) {lent left : List ℕ} {s at next : ℕ} where
  -- the lines of the plain cells, with the terminals by rank, are those of the book
  pub book-listed : {order : List ℕ} → ByRank cells d order → StateListed (place_in order) (tables_of (in_form_1 cells)) s lent at left next
      → StateListed (rank_of cells) (tables_of cells) s lent at left next
  book-listed r x = listed-alike (tables_of cells) (λ a some h. r.place a some (rw (counted d cells e) at h)) (rw (plain-tables d cells e) at x)

  -- and those of its form 2
  pub form2-listed : StateListed (rank_of cells) (tables_of cells) s lent at left next → StateListed (rank_of (in_form_2 cells)) (tables_of (in_form_2 cells)) s lent at left next
  form2-listed x =
      rw (← alike-tables d (with_form 2 d) cells (in_form_2 cells) (form2-alike d cells e))
      (listed-alike (tables_of cells) (λ a some h. sym (form2-ranks d cells e a (rw (counted d cells e) at h))) x)
