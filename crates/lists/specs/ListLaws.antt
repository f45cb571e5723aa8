-- Definitions for the laws of a list of sentences: entry by entry, and what holds of the entries that were read. Assumes nothing.
use Rattle.number.specs.declared.cause.Refusal.{Refusal}
use Rattle.lists.specs.declared.Rest.{Rest}
use Rattle.std.proofs.Math.Path.{◌≡◌}
use Rattle.std.specs.Prelude.{⊤, ltb, Result, Ok, Err, cond, ltb}
use mathlib.Core.List.{List, ◌∷◌}
use Prim.Native.Nat.{ℕ}
use Rattle.number.specs.Number.{refused_at}
use Rattle.number.specs.declared.cause.Cause.{Cause}
use Rattle.number.specs.declared.Cursor.{Cursor}
use Rattle.lists.specs.Entry.{entry_at}
use Rattle.lists.specs.List.{Listed, entries, refused, entries_at}
use Rattle.lists.specs.declared.Entry.{Entry}

-- where the entries end, or their refusal: what a loop that keeps no entry knows of them
abbrev pub end_of : Listed → Result ℕ Refusal
end_of (entries es at) = Ok at
end_of (refused r) = Err r

-- the verdict on a list of count entries, the first of which begins at an offset, and whose last ended so
abbrev pub list_closing : ℕ → ℕ → ℕ → Result ℕ Refusal → Result Rest Refusal
list_closing first count end (Err r) = Err r
list_closing first count end (Ok at) = cond (ltb at end) (Err (refused_at Cause.Surplus at)) (Ok (record { at = first; left = count }))

-- the first of them, and the others
pub record EntryFront (t : ℕ) (bytes : List ℕ) (k at : ℕ) (es : List Entry) (end : ℕ) : Type 0 where
  pub entry : Entry
  pub next : Cursor
  pub rest : List Entry
  pub found : entry_at t bytes at ≡ Ok (entry, next)
  pub split : es ≡ entry ∷ rest
  pub onward : entries_at t bytes k next.at ≡ entries rest end
