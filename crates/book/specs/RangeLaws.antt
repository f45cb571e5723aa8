-- Laws of the ranges. Assumes nothing.
use Rattle.std.specs.Prelude.{Option, None, Bool, true, false, List, ◌≡◌, refl, ℕ, zero, suc, ◌+◌, ◌*◌, ◌≤◌, ◌<◌, length, get_or}
use Rattle.std.proofs.lemmas.Bool.{false≢true, lt-leb}
use Rattle.std.proofs.Common.{mul-zero, arith, le-leb}
use Rattle.std.proofs.Math.Decide.{dec_le, ℕ_discrete}
use Rattle.number.specs.declared.cause.Cause.{Cause}
use Rattle.number.specs.TestLaws.{tests}
use Rattle.book.specs.IndexLaws.{mul_small}
use Rattle.book.specs.Range.{head_lowest, head_highest, part_length, fault_unless, fault_cause, among, fault, fits}
use Rattle.book.specs.declared.Part.{Part}
use Rattle.book.specs.declared.Part.TheVariants.{Head, Productions, Ranks, Actions, Gotos}
use Rattle.book.specs.declared.Sizes.{Sizes}

-- what a head in range says of the sizes
pub record Small (d : Sizes) : Type 0 where
  pub some-form : 1 ≤ d.form
  pub forms : d.form ≤ 2
  pub some-terminal : 1 ≤ d.t
  pub terminals : d.t ≤ 32
  pub nonterminals : d.n ≤ 32
  pub some-state : 1 ≤ d.s
  pub states : d.s ≤ 128
  pub productions : d.p ≤ 128

-- how many numbers follow the head
abbrev pub body_length : Sizes → ℕ
body_length d = 2 * d.p + part_length d Ranks + d.s * d.t + d.s * d.n

pub actions-few : (d : Sizes) → Small d → d.s * d.t ≤ 4096
actions-few d h = mul_small d.s 128 d.t 32 h.states h.terminals

pub gotos-few : (d : Sizes) → Small d → d.s * d.n ≤ 4096
gotos-few d h = mul_small d.s 128 d.n 32 h.states h.nonterminals

-- that no part is too long to be counted, and no number of one too large for a cell
pub record Few (d : Sizes) : Type 0 where
  pub terminals : d.t ≤ 32
  pub nonterminals : d.n ≤ 32
  pub states : d.s ≤ 128
  pub productions : d.p ≤ 128
  pub actions : d.s * d.t ≤ 4096
  pub gotos : d.s * d.n ≤ 4096

pub few : {d : Sizes} → Small d → Few d
few {d} h =
    record { terminals = h.terminals; nonterminals = h.nonterminals; states = h.states; productions = h.productions; actions = actions-few d h; gotos = gotos-few d h }

-- which holds of no sizes
pub few-none : Few (record { form = 0; t = 0; n = 0; s = 0; p = 0 })
few-none =
    record { terminals = omega arith; nonterminals = omega arith; states = omega arith; productions = omega arith; actions = omega arith; gotos = omega arith }

-- the refusal of v as number i of its part, where it is known what is there already
abbrev pub fault_among : Sizes → Part → ℕ → (ℕ → Bool) → ℕ → Option Cause
fault_among d part i there v = fault_unless (fits d part i (there v) v) (fault_cause part i)

-- ---- a number has a fault exactly where it does not fit
pub fault-fits : (d : Sizes) (part : Part) (seen : List ℕ) (v : ℕ) → fault d part seen v ≡ None → fits d part (length seen) (among v seen) v ≡ true
unfolding fault
fault-fits d part seen v e = go (fits d part (length seen) (among v seen) v) e
  where
    go : (b : Bool) → fault_unless b (fault_cause part (length seen)) ≡ None → b ≡ true
    go true f = refl
    go false f = let z : ◌≡◌ {A = ℕ} 0 1 = cc in absurd (omega arith)

pub fits-fault : (d : Sizes) (part : Part) (seen : List ℕ) (v : ℕ) → fits d part (length seen) (among v seen) v ≡ true → fault d part seen v ≡ None
unfolding fault
fits-fault d part seen v e = rw e

pub head-range : (d : Sizes) (i : ℕ) (there : Bool) (v : ℕ) → fits d Head i there v ≡ true → (get_or head_lowest i 0 ≤ v) × (v ≤ get_or head_highest i 0)
unfolding fits
head-range d i there v e = go (dec_le (get_or head_lowest i 0) v) (dec_le v (get_or head_highest i 0))
  where
    go : Dec (get_or head_lowest i 0 ≤ v) → Dec (v ≤ get_or head_highest i 0) → (get_or head_lowest i 0 ≤ v) × (v ≤ get_or head_highest i 0)
    go (yes g) (yes h) = (g, h)
    go (yes g) (no h) = absurd (false≢true (rw (le-leb _ _ g, lt-leb v (get_or head_highest i 0) (omega arith)) at e))
    go (no g) h = absurd (false≢true (rw (lt-leb (get_or head_lowest i 0) v (omega arith)) at e))

-- where there is an action there is a terminal
pub factor-some : (i a b : ℕ) → i < a * b → 0 < b
factor-some i a zero h = absurd (omega (arith, mul-zero a))
factor-some i a (suc b) h = omega arith

-- how many ranks there are
pub ranks-few : (d : Sizes) → part_length d Ranks ≤ d.t
ranks-few d = go (ℕ_discrete d.form 2)
  where
    go : Dec (d.form ≡ 2) → part_length d Ranks ≤ d.t
    go (yes h) = rw h (omega arith)
    go (no h) = simp (tests, h) (omega arith)
