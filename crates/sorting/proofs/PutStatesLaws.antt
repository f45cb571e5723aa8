-- The entries that stand at the places of the states, as they are written. Assumes nothing.
use mathlib.Core.List.{List, [], append-nil}
use Rattle.std.specs.Prelude.{◌≡◌, ℕ, ◌≤◌, get_or}
use Rattle.std.proofs.Math.Path.{sym}
use Rattle.std.proofs.Common.{◌∙◌, arith}
use Rattle.number.specs.NumberLaws.{Bytes}
use Rattle.book.specs.Book.{bytes_of}
use Rattle.book.specs.Tables.{Tables}
use Rattle.items.specs.Items.{Item, item_of, item_numbers, numbers_of}
use Rattle.items.specs.SpanLaws.{span_at, span_none, span-item}
use Rattle.items.specs.WrittenLaws.{numbers_more}
use Rattle.course.specs.Course.{in_state}
use Rattle.course.specs.Turns.{PlaceOf, none, one, Places}
use Rattle.sorting.specs.Sorting.{by_state}
use Rattle.sorting.specs.UpTo.{spans_to}
use Rattle.sorting.proofs.UpToLaws.{up-to-written}

module _ {t : ℕ} (bytes : List ℕ) (b : Bytes bytes) (few : t ≤ 32) where
  pub place-span : {place : ℕ} {xs : List Item} → PlaceOf t bytes place xs → span_at bytes place ≡ bytes_of (numbers_of xs)
  unfolding numbers_of
  place-span none = span_none bytes
  place-span (one {place} {e} some f) =
      let x = item_of bytes e in
      span-item bytes place b few some f ∙ sym (numbers_more x [] ∙ append-nil (bytes_of (item_numbers x)))

  -- those of the first k states
  pub spans-by-state : (B : Tables) (xs : List Item) (places : List ℕ) → Places B t bytes xs places → (k : ℕ) → k ≤ 128
      → spans_to bytes places k ≡ bytes_of (numbers_of (by_state B xs k 0))
  spans-by-state B xs places kept k h =
      up-to-written (λ s. span_at bytes (get_or places s 0)) (λ s. in_state B s xs) k (λ s l. place-span (kept s (omega arith)))
