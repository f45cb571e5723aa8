-- `machine::driver::drive_book` meets its contract: the plain cells have the book's tables. Assumes nothing.
use mathlib.Core.Path.{sym}
use native.Mathlib.Omega.{arith}
use lib.Seq.{length-take-le}
use Rattle.forms.proofs.FormsLaws.{plain-holds, plain-tables}
use Rattle.machine.proofs.driver.drive_book.Goals as goal

pub drive-requires : goal.drive-requires
drive-requires c =
    record {
      holds = rw (c.plain_cells-n.ensures.0, c.plain_sizes.ensures) (plain-holds _ _ c.requires.accepted);
      sentence_value = rw c.plain_sizes.ensures c.requires.sentence_value;
      z_lt_t = rw c.plain_sizes.ensures c.requires.z_lt_t;
      in_bounds = c.requires.in_bounds;
    }

pub returns : goal.returns
returns c =
    rw (plain-tables _ _ c.requires.accepted) at (rw c.plain_cells-n.ensures.0 at c.drive.ensures)
