-- `finder::telling::tell_least` meets its contract: the exact cost says which answer it is. Assumes nothing.
use native.Mathlib.Omega.{arith}
use Rattle.book.specs.Tables.{tables_of}
use Rattle.book.proofs.TablesLaws.{in-range}
use Rattle.finder.specs.PairLaws.{brings-exact, answered-sentence}
use Rattle.finder.proofs.telling.tell_least.Goals as goal

pub write_sentence-requires : goal.write_sentence-requires
write_sentence-requires c =
    let a = c.args in
    let p = c.requires in
    let short = c.if-n-ge-LONG.false in
    record {
      holds = p.holds;
      crossing_table = p.crossing_table;
      layered = (p.layered.0, p.guides);
      exact = brings-exact a.breaks (tables_of a.cells.now) a.s a.z (in-range p.holds) p.layered.1;
      arranged = p.arranged;
      n_le_limit = (omega (arith, short), omega (arith, short, p.layered.3));
    }

pub returns : goal.returns
returns c =
    let a = c.args in answered-sentence a.breaks (tables_of a.cells.now) a.s a.z (in-range c.requires.holds) c.write_sentence.ensures
