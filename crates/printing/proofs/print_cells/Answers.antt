-- `printing::print_cells` meets its contract: the plain cells of what was prepared, and its terminals by rank. Assumes nothing.
use mathlib.Core.Path.{refl}
use Rattle.opening.specs.PrepareLaws.{prepared-ready}
use borrow.Author.Rules.{rules}
use Rattle.printing.proofs.print_cells.Goals as goal

pub plain_cells-n-requires : goal.plain_cells-n-requires
plain_cells-n-requires c =
    record {
      accepted = (prepared-ready c.in-Ok.ensures refl).book;
      in_bounds = search rules;
    }

pub by_rank-requires : goal.by_rank-requires
by_rank-requires c = (prepared-ready c.in-Ok.ensures refl).book

pub print_book-requires : goal.print_book-requires
print_book-requires c =
    let r = prepared-ready c.in-Ok.ensures refl in
    rw (c.plain_cells-n.ensures.0, c.plain_sizes.ensures) record { holds = r.holds; crossing_table = r.crossings; arranged = c.by_rank.ensures.arranged }
