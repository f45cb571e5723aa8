-- Laws of the entries in turn: which have no fault, that a state has an entry only by a run, and those that fail in one. Assumes nothing.
use Rattle.std.specs.Prelude.{Bool, true, false, cond, ◌&&◌, List, [], ◌∷◌, ◌++◌, ◌⊎◌, ◌≡◌, refl, ℕ, eqb, length}
use Rattle.std.proofs.lemmas.Bool.{false≢true}
use Rattle.std.proofs.Common.{inl, inr, eq-eqb, ne_eqb, eqb-true}
use Rattle.book.specs.Range.{among}
use Rattle.book.specs.Tables.{Tables}
use Rattle.machine.specs.declared.Ending.{Ending}
use Rattle.machine.specs.declared.Ending.TheVariants.{Accepted, Error, Broken, Passed, Deep, Spinning}
use Rattle.machine.specs.declared.Stop.{Stop}
use Rattle.items.specs.Items.{Item}
use Rattle.course.specs.Course.{run_of, is_right, state_of, state_in, in_state, is_lower}

-- ---- an entry is right where its run, within its limits, ends as error or as broken with its whole sentence in
pub record Ends (B : Tables) (s : ℕ) (x : Item) : Type 0 where
  pub stop : Stop
  pub ending : (run_of B x ≡ Error stop) ⊎ (run_of B x ≡ Broken stop)
  pub whole : stop.taken ≡ length x.symbols
  pub state : stop.state ≡ s

pub right-ends : (B : Tables) (x : Item) (e : Ending) → run_of B x ≡ e → is_right (length x.symbols) e ≡ true → Ends B (state_of e) x
right-ends B x (Error stop) f r = record { stop = stop; ending = inl f; whole = eqb-true _ _ r; state = refl }
right-ends B x (Accepted stop) f r = absurd (false≢true r)
right-ends B x (Broken stop) f r = record { stop = stop; ending = inr f; whole = eqb-true _ _ r; state = refl }
right-ends B x (Passed stop) f r = absurd (false≢true r)
right-ends B x (Deep stop) f r = absurd (false≢true r)
right-ends B x (Spinning stop) f r = absurd (false≢true r)

-- ---- an entry in turn
abbrev pub Right : Tables → Item → Type 0
Right B x = is_right (length x.symbols) (run_of B x) ≡ true

-- the entry x has no fault after entries that fail in these states
pub record Passes (ordered : Bool) (B : Tables) (ss : List ℕ) (x : Item) : Type 0 where
  pub right : Right B x
  pub upward : (ordered && is_lower (state_in B x) ss) ≡ false
  pub fresh : among (state_in B x) ss ≡ false

-- ---- a state has an entry where a right one ends in it
pub data Has (B : Tables) (s : ℕ) : List Item → Type 0 where
  first : {x : Item} {xs : List Item} → Ends B s x → Has B s (x ∷ xs)
  later : {x : Item} {xs : List Item} → Has B s xs → Has B s (x ∷ xs)

-- ---- the entries that fail in a state
pub in-state-append : (B : Tables) (s : ℕ) (xs ys : List Item) → in_state B s (xs ++ ys) ≡ in_state B s xs ++ in_state B s ys
unfolding in_state
in-state-append B s [] ys = refl
in-state-append B s (x ∷ xs) ys = go (eqb (state_in B x) s) (in-state-append B s xs ys)
  where
    go : (here : Bool) → in_state B s (xs ++ ys) ≡ in_state B s xs ++ in_state B s ys
        → cond here (x ∷ in_state B s (xs ++ ys)) (in_state B s (xs ++ ys)) ≡ cond here (x ∷ in_state B s xs) (in_state B s xs) ++ in_state B s ys
    go true e = rw e
    go false e = e

pub in-state-here : (B : Tables) (s : ℕ) (x : Item) (xs : List Item) → state_in B x ≡ s → in_state B s (x ∷ xs) ≡ x ∷ in_state B s xs
unfolding in_state
in-state-here B s x xs e = rw (eq-eqb (state_in B x) s e)

pub in-state-other : (B : Tables) (s : ℕ) (x : Item) (xs : List Item) → ¬ (state_in B x ≡ s) → in_state B s (x ∷ xs) ≡ in_state B s xs
unfolding in_state
in-state-other B s x xs n = rw (ne_eqb (state_in B x) s n)
