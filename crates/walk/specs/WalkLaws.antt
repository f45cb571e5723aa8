-- Definitions for the laws of walks: they are run by the machine, and the machine reaches nothing else, from the start and from any stack. Assumes nothing.
use Rattle.std.specs.Prelude.{◌≡◌, ℕ}
use Rattle.book.specs.Tables.{Tables}
use Rattle.book.specs.declared.Action.TheVariants.{Shift, Reduce}

-- where a walk of one transition or more can begin: under a the state q shifts, or reduces an empty production
pub data Opens (B : Tables) (q a : ℕ) : Type 0 where
  shifts : {s : ℕ} → B.act q a ≡ Shift s → Opens B q a
  empties : {p : ℕ} → B.act q a ≡ Reduce p → B.len p ≡ 0 → Opens B q a
