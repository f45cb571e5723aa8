-- Laws of an entry that is put. Assumes nothing.
use Rattle.std.specs.Prelude.{Ok, Err, Bool, true, false, cond, List, [], ◌≡◌, refl, ℕ, ◌-◌, ◌≤◌, eqb, length}
use Rattle.std.proofs.Common.{arith}
use Rattle.number.specs.declared.Cursor.{Cursor}
use Rattle.number.specs.declared.cause.Refusal.{Refusal}
use Rattle.lists.specs.Entry.{entry_at, part}
use Rattle.lists.specs.declared.Entry.{Entry}
use Rattle.items.specs.SpanLaws.{span_of, span_at, entry-within, span-found, span-length}

-- where none is read, there is none
pub span-refused : (bytes : List ℕ) (place : ℕ) {r : Refusal} → entry_at 32 bytes place ≡ Err r → span_at bytes place ≡ []
unfolding span_at
span-refused bytes place f = by_place (eqb place 0)
  where
    by_place : (b : Bool) → cond b [] (span_of bytes place (entry_at 32 bytes place)) ≡ []
    by_place true = refl
    by_place false = rw f

-- one that was read is the bytes from its place up to where it ends
pub record SpanFound (bytes : List ℕ) (place next : ℕ) : Type 0 where
  pub ahead : place ≤ next
  pub within : next ≤ length bytes
  pub bytes_of : span_at bytes place ≡ part bytes place (next - place)
  pub size : length (span_at bytes place) ≡ next - place

pub span-read : (bytes : List ℕ) (place : ℕ) {e : Entry} {next : Cursor} → (place ≡ 0 → ⊥) → entry_at 32 bytes place ≡ Ok (e, next)
    → SpanFound bytes place next.at
span-read bytes place some f =
    let (ahead, within) = entry-within bytes place (omega arith) f in
    record {
      ahead = omega arith;
      within = within;
      bytes_of = span-found bytes place (omega arith) (omega arith) f;
      size = span-length bytes place (omega arith) (omega arith) f;
    }
