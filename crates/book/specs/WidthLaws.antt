-- Laws of how large the numbers of a book are: what is in its field's range is below 16,384, and so takes at most two bytes and fits in a cell.
-- Assumes nothing.
use Rattle.number.specs.Number.{Number}
use Rattle.std.specs.Prelude.{Bool, true, false, List, [], ◌∷◌, ◌≡◌, refl, ℕ, zero, suc, ◌+◌, ◌%◌, ◌≤◌, ◌<◌, length, get_or}
use Rattle.std.proofs.lemmas.Bool.{false≢true}
use Rattle.std.proofs.Math.Decide.{dec_lt, ℕ_discrete}
use Rattle.std.proofs.Common.{arith, le-ltb, ltb-true, leb-true}
use Rattle.std.proofs.Math.ListN.{get_or-eq_default}
use Rattle.number.specs.TestLaws.{tests}
use Rattle.book.specs.Action.{action_of}
use Rattle.book.specs.ActionLaws.{code-action, code_of}
use Rattle.book.specs.Book.{body}
use Rattle.book.specs.BookLaws.{Headed, headed-read, Readable, book-whole}
use Rattle.book.specs.CellsLaws.{Suits, Composed, parts-composed}
use Rattle.book.specs.PartsLaws.{part_length_lem, part-clean}
use Rattle.book.specs.Range.{head_highest, allowed, fits}
use Rattle.book.specs.RangeLaws.{Few, few, few-none, body_length, head-range}
use Rattle.book.specs.RoundTripLaws.{Cells, below-append}
use Rattle.book.specs.RowLaws.{values}
use Rattle.book.specs.Tables.{sizes_of}
use Rattle.book.specs.declared.Action.{Action}
use Rattle.book.specs.declared.Action.TheVariants.{Error, Accept, Shift, Reduce}
use Rattle.book.specs.declared.Part.{Part}
use Rattle.book.specs.declared.Part.TheVariants.{Head, Productions, Ranks, Actions, Gotos}
use Rattle.book.specs.declared.Sizes.{Sizes}

-- ---- a number that fits
action-wide : (d : Sizes) → Few d → (t v : ℕ) (x : Action) → allowed d t x ≡ true → code_of x ≡ v → v < 16384
unfolding allowed code_of
action-wide d h t v Error e f = omega arith
action-wide d h t v Accept e f = omega arith
action-wide d h t v (Shift s) e f = go (ℕ_discrete t 0)
  where
    go : Dec (t ≡ 0) → v < 16384
    go (yes z) = absurd (false≢true (simp tests at e))
    go (no z) = omega (arith, ltb-true s d.s (simp tests at e), h.states)
action-wide d h t v (Reduce p) e f = omega (arith, ltb-true p d.p e, h.productions)

-- what is larger says no action that is allowed
pub action-over : (d : Sizes) → Few d → (t v : ℕ) → 16384 ≤ v → false ≡ allowed d t (action_of v)
action-over d h t v g = go (allowed d t (action_of v)) (λ e. action-wide d h t v (action_of v) e (code-action v))
  where
    go : (b : Bool) → (b ≡ true → v < 16384) → false ≡ b
    go true f = absurd (omega (arith, f refl))
    go false f = refl

pub production-narrow : (d : Sizes) → Few d → (i : ℕ) (there : Bool) (v : ℕ) → fits d Productions i there v ≡ true → v < 128
unfolding fits
production-narrow d h i there v e = go (ℕ_discrete (i % 2) 0)
  where
    go : Dec (i % 2 ≡ 0) → v < 128
    go (yes z) = omega (arith, ltb-true v d.n (simp tests at e), h.nonterminals)
    go (no z) = omega (arith, leb-true v 32 (simp tests at e))

pub highest-wide : (j : ℕ) → get_or head_highest j 0 < 16384
highest-wide zero = omega arith
highest-wide (suc zero) = omega arith
highest-wide (suc (suc zero)) = omega arith
highest-wide (suc (suc (suc zero))) = omega arith
highest-wide (suc (suc (suc (suc zero)))) = omega arith
highest-wide (suc (suc (suc (suc (suc j))))) = omega arith

pub rank-narrow : (d : Sizes) → Few d → (i : ℕ) (there : Bool) (v : ℕ) → fits d Ranks i there v ≡ true → v < 128
unfolding fits
rank-narrow d h i there v e = go (dec_lt v d.t)
  where
    go : Dec (v < d.t) → v < 128
    go (yes l) = omega (arith, h.terminals)
    go (no l) = absurd (false≢true (rw (le-ltb v d.t (omega arith)) at e))

pub fits-wide : (d : Sizes) → Few d → (part : Part) (i : ℕ) (there : Bool) (v : ℕ) → fits d part i there v ≡ true → v < 16384
unfolding fits
fits-wide d h Head i there v e = omega (arith, (head-range d i there v e).1, highest-wide i)
fits-wide d h Productions i there v e = omega (arith, production-narrow d h i there v e)
fits-wide d h Ranks i there v e = omega (arith, rank-narrow d h i there v e)
fits-wide d h Actions i there v e = action-wide d h (i % d.t) v (action_of v) e (code-action v)
fits-wide d h Gotos i there v e = omega (arith, h.states, leb-true v d.s e)

-- ---- the numbers of parts
pub suits-wide : (d : Sizes) → Few d → (part : Part) (vs : List ℕ) → Suits d part vs → (i : ℕ) → get_or vs i 0 < 16384
suits-wide d h part vs (count, suits) i = go (dec_lt i (length vs))
  where
    go : Dec (i < length vs) → get_or vs i 0 < 16384
    go (yes l) = fits-wide d h part i _ _ (suits i (rw count at l))
    go (no l) = let out : length vs ≤ i = omega arith in rw (get_or-eq_default vs 0 out) (omega arith)

pub composed-wide : (d : Sizes) → Few d → (parts : List Part) (vs : List ℕ) → Composed d parts vs → (i : ℕ) → get_or vs i 0 < 16384
composed-wide d h [] vs c i = rw c (omega arith)
composed-wide d h (part ∷ more) vs (front, back, both, suits, c) i =
    rw both (below-append 16384 front back (suits-wide d h part front suits) (composed-wide d h more back c) i)

-- ---- of a head, and of a book, whichever source they were read from
pub headed-wide : {source : ℕ → Number} {at : ℕ} {head : List ℕ} → Headed source at head → (i : ℕ) → get_or head i 0 < 16384
unfolding sizes_of
headed-wide {source} {at} {head} h =
    suits-wide (sizes_of []) few-none Head head (part_length_lem source (sizes_of []) Head 0 head at h.is, part-clean source (sizes_of []) Head 0 head at h.is)

readable-wide : {source : ℕ → Number} {end : ℕ} {d : Sizes} → (r : Readable source end d) → (i : ℕ) → get_or r.cells i 0 < 16384
readable-wide {source} {end} {d} r i =
    let w = book-whole source end r.cells r.next r.is in
    let h = headed-read w.first in
    rw w.both
    (below-append 16384 w.head w.rest (headed-wide h)
    (composed-wide (sizes_of w.head) (few h.small) body w.rest (parts-composed source (sizes_of w.head) body w.at w.rest r.next w.second)) i)

pub headed-cells : {source : ℕ → Number} {at : ℕ} {head : List ℕ} → Headed source at head → Cells head
headed-cells h i = omega (arith, headed-wide h i)

pub readable-cells : {source : ℕ → Number} {end : ℕ} {d : Sizes} → Readable source end d → Cells (values source (5 + body_length d) 0)
readable-cells r i = rw r.numbers (omega (arith, readable-wide r i))
