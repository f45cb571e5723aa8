-- Definitions for the laws of `proofs/ReadingLaws.antt`. Assumes nothing.
use Rattle.std.proofs.Math.Path.{◌≡◌}
use mathlib.Core.List.{List}
use Prim.Native.Nat.{ℕ, ◌≤◌}
use Rattle.std.proofs.Math.ListN.{length}
use Rattle.lists.specs.List.{entries, entries_at, closed}
use Rattle.lists.specs.declared.Entry.{Entry}
use Rattle.lists.specs.declared.Rest.{Rest}

-- the rest of a list that was checked against a book of t terminals: the entries es stand there, and nothing after
pub record EntriesHeld (bytes : List ℕ) (rest : Rest) (es : List Entry) : Type 0 where
  pub t : ℕ
  pub few : t ≤ 32
  pub end : ℕ
  pub ahead : entries_at t bytes rest.left rest.at ≡ entries es end
  pub closed : length bytes ≤ end
