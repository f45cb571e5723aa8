-- `listing_test::books` is safe: the books are within what was read. Assumes nothing.
use native.Mathlib.Omega.{arith}
use lib.ListN.{length-take}
use Rattle.listing_test.proofs.books.Goals as goal

pub slice_bounds-list-end-2 : goal.slice_bounds-list-end-2
slice_bounds-list-end-2 c = simp length-take (omega arith)
