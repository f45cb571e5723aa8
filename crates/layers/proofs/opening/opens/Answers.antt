-- `layers::opening::opens` meets its contract. Assumes nothing.
use mathlib.Core.Path.{◌∙◌, sym}
use mathlib.Core.Bool.{false≢true}
use borrow.Author.Tests.{eqb-false}
use Rattle.layers.specs.ActionLaws.{reduce-below, reduce-unopened, error-unopened, accept-unopened}
use Rattle.layers.proofs.opening.opens.Goals as goal

pub production_length-requires : goal.production_length-requires
production_length-requires c =
    record {
      holds = c.requires.holds;
      p_lt_p = reduce-below _ _ c.requires.holds c.action_at.ensures c.in-Reduce.is;
    }

pub returns-in-Shift : goal.returns-in-Shift
returns-in-Shift c = λ e. absurd (false≢true (sym e))

pub returns-in-Reduce : goal.returns-in-Reduce
returns-in-Reduce c =
    λ e. reduce-unopened _ _ _ c.action_at.ensures c.in-Reduce.is (λ z. eqb-false _ _ e (c.production_length.ensures ∙ z))

pub returns-in-Error : goal.returns-in-Error
returns-in-Error c = λ e. error-unopened _ _ _ c.action_at.ensures c.in-Error.is

pub returns-in-Accept : goal.returns-in-Accept
returns-in-Accept c = λ e. accept-unopened _ _ _ c.action_at.ensures c.in-Accept.is
