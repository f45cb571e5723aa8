-- `machine::run` meets its contract: what is admitted is run. Assumes nothing.
use mathlib.Core.Path.{sym, ◌∙◌}
use lib.ListN.{length}
use Rattle.std.proofs.lemmas.Result.{err_from_is_err_and}
use Rattle.book.specs.Book.{of_cells, checked}
use Rattle.machine.specs.AdmissionLaws.{admitted-valid, run-refused, run-admitted}
use Rattle.machine.proofs.run.Goals as goal

pub drive_book-requires : goal.drive_book-requires
drive_book-requires c =
    let a = admitted-valid c.args.sentence.now c.args.lookahead (length c.args.stack.now) (checked (of_cells c.args.cells.now)) c.in_ok-d.d (sym c.in_ok-d.ensures) in
    record {
      accepted = a.book;
      sentence_value = a.terminals;
      z_lt_t = a.lookahead;
      in_bounds = a.enough;
    }

pub returns-in_err-d : goal.returns-in_err-d
returns-in_err-d c =
    let p = err_from_is_err_and c.from_residual.result c.from_residual.ensures.1 in
    rw (p.1, p.2) (run-refused c.args.cells.now c.args.sentence.now c.args.lookahead c.args.stack.now _ (sym c.in_err-d.ensures))

pub returns : goal.returns
returns c =
    run-admitted c.args.cells.now c.args.sentence.now c.args.lookahead c.args.stack.now c.in_ok-d.d (sym c.in_ok-d.ensures) c.drive_book.ensures
