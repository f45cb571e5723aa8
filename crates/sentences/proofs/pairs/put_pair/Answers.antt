-- `sentences::pairs::put_pair` meets its contract: the cost tells whether there is a sentence. Assumes nothing.
use Rattle.book.specs.Order.{place_in}
use Rattle.book.specs.Tables.{tables_of}
use Rattle.finder.specs.FittingLaws.{answered-fits}
use Rattle.layers.specs.CrossingLaws.{terminals-are}
use Rattle.sentences.proofs.PartsLaws.{pair_found}
use native.Mathlib.Omega.{arith}
use Rattle.sentences.proofs.pairs.put_pair.Goals as goal

pub put_found-requires : goal.put_found-requires
put_found-requires c =
    let a = c.args in
    record {
      fitting = answered-fits a.breaks (tables_of a.cells.now) a.s a.z c.answer-found.ensures;
      at_in_bounds = c.requires.s_lt_s.3;
    }

pub returns : goal.returns
returns c =
    let a = c.args in
    record {
      pair_put = pair_found a.breaks (place_in a.order.now) (tables_of a.cells.now) a.s a.z c.requires.exact (omega (arith, terminals-are c.requires.holds, c.requires.holds.small.terminals)) c.answer-found.ensures c.put_found.ensures.put;
      upper_bound = c.put_found.ensures.upper_bound;
    }
