-- `sentences::all_pairs::sentences_in` meets its contract: refused, or done. Assumes nothing.
use mathlib.Core.Path.{sym}
use Rattle.book.specs.CallLaws.{steps-none}
use Rattle.book.proofs.TablesLaws.{accepted-book}
use Rattle.sentences.proofs.PartsLaws.{sentences-admitted, all_told}
use Rattle.sentences.proofs.all_pairs.sentences_in.Goals as goal

pub admit-requires : goal.admit-requires
admit-requires c = (accepted-book _ _ c.requires).small

pub solve-requires : goal.solve-requires
solve-requires c =
    record {
      accepted = c.requires;
      d_in_bounds = sentences-admitted _ _ _ _ (sym c.in_ok-admit.ensures);
    }

pub returns : goal.returns
returns c =
    let e = sym c.in_ok-admit.ensures in
    rw (c.requires, e, ← (steps-none _ e).0) (all_told _ _ c.args.d _ c.solve.ensures.all_put c.solve.ensures.work_after)
