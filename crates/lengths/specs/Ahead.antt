-- Masks of nonterminals that grow by what is ahead of a state. Assumes nothing.
use Rattle.std.specs.Prelude.{false, List, ◌≡◌, ℕ, suc, get_or}
use Rattle.sets.specs.Bits.{member}
use Rattle.book.specs.Tables.{Tables}
use Rattle.book.specs.declared.Action.TheVariants.{Shift}
use Rattle.lengths.specs.declared.Missing.TheVariants.{Goto}
use Rattle.lengths.specs.Starts.{Reduces}

-- r has all of the mask, and of what it leaves out P holds
pub record Grown (P : ℕ → Type 0) (mask r : ℕ) : Type 0 where
  pub kept : (X : ℕ) → member r X ≡ false → member mask X ≡ false
  pub rest : (X : ℕ) → member r X ≡ false → P X

-- by the action of q under z no reduction to X is ahead, where `after` has the masks of one transition more; and by the goto under Y
pub record NoneByAction (B : Tables) (m : ℕ) (after : List ℕ) (q z X : ℕ) : Type 0 where
  pub reduces : ¬ Reduces (Goto X) B m q z
  pub shifts : (g : ℕ) → B.act q z ≡ Shift g → member (get_or after g 0) X ≡ false

pub record NoneByGoto (B : Tables) (after : List ℕ) (q Y X : ℕ) : Type 0 where
  pub gotos : (g : ℕ) → B.goto q Y ≡ suc g → member (get_or after g 0) X ≡ false
