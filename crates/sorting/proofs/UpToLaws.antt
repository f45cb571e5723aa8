-- Laws of bytes that are put state by state, and what they are where each state's are those of its entries. Assumes nothing.
use Rattle.std.specs.Prelude.{List, ◌++◌, ◌≡◌, ℕ, zero, suc, ◌<◌}
use Rattle.std.proofs.Math.Path.{refl}
use Rattle.std.proofs.Common.{zero-add, arith}
use Rattle.book.specs.Book.{bytes_of}
use Rattle.items.specs.Items.{Item, numbers_of}
use Rattle.items.specs.WrittenLaws.{numbers-append}
use Rattle.sorting.specs.Sorting.{statewise}
use Rattle.sorting.proofs.StatewiseLaws.{statewise-last}
use Rattle.sorting.specs.UpTo.{up_to}

-- ---- the bytes of entries state by state
pub up-to-written : (piece : ℕ → List ℕ) (taken : ℕ → List Item) (k : ℕ) → ((s : ℕ) → s < k → piece s ≡ bytes_of (numbers_of (taken s)))
    → up_to piece k ≡ bytes_of (numbers_of (statewise taken k 0))
unfolding up_to statewise numbers_of
up-to-written piece taken zero e = refl
up-to-written piece taken (suc k) e =
    let last : statewise taken (suc k) 0 ≡ statewise taken k 0 ++ taken k = rw zero-add at (statewise-last taken k 0) in
    rw (last, numbers-append (statewise taken k 0) (taken k), up-to-written piece taken k (λ s h. e s (omega arith)), e k (omega arith))
