-- `listing_test::ring::list` meets its contract: the book is within its buffer. Assumes nothing.
use native.Mathlib.Omega.{arith}
use mathlib.Core.Path.{◌≡◌, ◌∙◌}
use lib.ListN.{length, length-take, length-set, length-replicate}
use Rattle.listing_test.proofs.ring.list.Goals as goal

pub slice_bounds-bytes-end : goal.slice_bounds-bytes-end
slice_bounds-bytes-end c =
    let e : length c.put_actions.new.bytes ≡ 549 = c.put_actions.ensures ∙ simp (length-set, length-replicate) in omega (arith, c.requires)

pub slice_bounds-print_listing-end : goal.slice_bounds-print_listing-end
slice_bounds-print_listing-end c =
    let e : length c.put_actions.new.bytes ≡ 549 = c.put_actions.ensures ∙ simp (length-set, length-replicate) in simp length-take (omega (arith, c.requires))
