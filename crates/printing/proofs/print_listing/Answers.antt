-- `printing::print_listing` meets its contract: a book is no longer than the cells. Assumes nothing.
use native.Mathlib.Omega.{arith}
use mathlib.Core.Path.{refl}
use lib.ListN.{length-take}
use Rattle.opening.specs.PrepareLaws.{read-most}
use Rattle.printing.proofs.print_listing.Goals as goal

pub slice_bounds-cells-end : goal.slice_bounds-cells-end
slice_bounds-cells-end c = omega (arith, read-most _ _ _ _ _ c.in-Ok.ensures refl, c.read.auto.cells)

pub slice_bounds-print_cells-end : goal.slice_bounds-print_cells-end
slice_bounds-print_cells-end c =
    simp length-take (omega (arith, read-most _ _ _ _ _ c.in-Ok.ensures refl, c.read.auto.cells))
