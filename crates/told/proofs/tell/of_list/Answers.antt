-- `told::tell::of_list` meets its contract: the last of eight numbers is set. Assumes nothing.
use mathlib.Core.Path.{◌≡◌, ◌∙◌}
use native.Mathlib.Omega.{arith}
use lib.ListN.{length, drop_of_length-le}
use lib.Seq.{set_split}
use borrow.Author.Rules.{rules}
use Rattle.told.proofs.tell.of_list.Goals as goal

pub returns : goal.returns
returns c =
    let numbers = c.args.numbers in
    let size : length numbers ≡ 8 = search rules in
    set_split numbers 7 c.list_of.result (omega arith) ∙ rw (drop_of_length-le numbers {i = 8} (omega arith), c.list_of.ensures)
