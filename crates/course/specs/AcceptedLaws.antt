-- Laws of a list that `check_list` accepted: its entries stand where it says. Assumes nothing.
use Rattle.std.specs.Prelude.{Ok, Err, List, ◌≡◌, refl, ℕ, length}
use Rattle.std.proofs.Common.{ap}
use Rattle.number.specs.Number.{number_at}
use Rattle.number.specs.declared.cause.Refusal.{Refusal}
use Rattle.machine.specs.MachineLaws.{clash}
use Rattle.lists.specs.List.{Listed, entries, refused, entries_at, list_of, listing, after}
use Rattle.lists.proofs.ReadingLaws.{list-ahead}
use Rattle.lists.specs.declared.Entry.{Entry}
use Rattle.lists.specs.declared.Rest.{Rest}
use Rattle.items.specs.WrittenLaws.{after-some}
use Rattle.course.specs.Turns.{EntriesStanding}

-- ---- what `check_list` answers
pub record ListAccepted (bytes : List ℕ) (l : Listed) (rest : Rest) : Type 0 where
  pub es : List Entry
  pub end : ℕ
  pub list : l ≡ entries es end
  pub start : rest ≡ record { at = after (number_at bytes 0); left = length es }

module _ (bytes : List ℕ) (l : Listed) where
  pub list-accepted : {rest : Rest} → listing bytes l ≡ Ok rest → ListAccepted bytes l rest
  list-accepted {rest} e = go l refl e
    where
      go : (m : Listed) → l ≡ m → listing bytes m ≡ Ok rest → ListAccepted bytes l rest
      go (refused r) f g = absurd (clash cc)
      go (entries es end) f g = record { es = es; end = end; list = f; start = cc }

  pub list-refused : {r : Refusal} → listing bytes l ≡ Err r → l ≡ refused r
  list-refused {r} e = go l refl e
    where
      go : (m : Listed) → l ≡ m → listing bytes m ≡ Err r → l ≡ refused r
      go (refused q) f g = let same : q ≡ r = cc in rw same at f
      go (entries es end) f g = absurd (clash cc)

  pub accepted-first : {rest : Rest} → ListAccepted bytes l rest → rest.at ≡ after (number_at bytes 0)
  accepted-first a = ap (λ (r : Rest). r.at) a.start

-- ---- where its entries stand
module _ (t : ℕ) {bytes : List ℕ} {rest : Rest} (a : ListAccepted bytes (list_of t bytes) rest) where
  pub accepted-ahead : entries_at t bytes rest.left rest.at ≡ entries a.es a.end
  accepted-ahead = rw a.start (list-ahead bytes a.es a.end t a.list).ahead

  pub accepted-standing : EntriesStanding t bytes rest.at rest.left
  accepted-standing = record { es = a.es; end = a.end; ahead = accepted-ahead; after = rw (accepted-first bytes (list_of t bytes) a) (after-some t bytes a.list) }
