-- `finder::find_pair::find_in` meets its contract: refused, or done. Assumes nothing.
use mathlib.Core.Path.{sym}
use Rattle.book.specs.CallLaws.{steps-none}
use Rattle.book.specs.Tables.{tables_of}
use Rattle.book.proofs.TablesLaws.{accepted-book}
use Rattle.finder.specs.FinderLaws.{pair-admitted}
use Rattle.finder.proofs.ToldLaws.{answered-told}
use Rattle.finder.proofs.find_pair.find_in.Goals as goal

pub admit_pair-requires : goal.admit_pair-requires
admit_pair-requires c = (accepted-book _ _ c.requires).small

pub solve-requires : goal.solve-requires
solve-requires c =
    record {
      accepted = c.requires;
      d_in_bounds = pair-admitted _ _ _ _ _ (sym c.in_ok-admit_pair.ensures);
    }

pub returns : goal.returns
returns c =
    let a = c.args in
    let e = sym c.in_ok-admit_pair.ensures in
    rw (c.requires, e, ← (steps-none _ e).0) (answered-told a.breaks (tables_of a.cells.now) a.s a.z c.solve.ensures.answered c.solve.ensures.work_after)
