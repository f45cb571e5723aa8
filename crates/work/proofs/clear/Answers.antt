-- `work::clear` meets its contract. Assumes nothing.
use mathlib.Core.Path.{sym, ◌∙◌}
use Rattle.walk.specs.FillLaws.{filled-front}
use Rattle.work.specs.WorkLaws.{over_zeros}
use Rattle.work.proofs.clear.Goals as goal

pub returns : goal.returns
returns c =
    let s = c in
    c.fill.ensures ∙ filled-front c.args.work.now c.args.n 0 c.requires ∙ sym (over_zeros c.args.n c.args.work.now)
