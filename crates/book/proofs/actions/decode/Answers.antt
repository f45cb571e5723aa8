-- `book::actions::decode` meets its contract: each test picks a case of `action_of`. Assumes nothing.
use mathlib.Core.Path.{sym}
use native.Mathlib.Omega.{arith}
use Rattle.book.specs.Action.{action_of}
use Rattle.book.specs.ActionLaws.{action-even, action-odd}
use borrow.Author.Rules.{rules}
use Rattle.book.proofs.actions.decode.Goals as goal

pub returns-then-cell-eq0 : goal.returns-then-cell-eq0
unfolding action_of
returns-then-cell-eq0 c = search rules

pub returns-then-cell-eq1 : goal.returns-then-cell-eq1
unfolding action_of
returns-then-cell-eq1 c = search rules

pub returns-then-k-eq0 : goal.returns-then-k-eq0
returns-then-k-eq0 c = sym (action-even _ _ (omega arith) c.if-k-eq0.true)

pub returns : goal.returns
returns c = sym (action-odd _ _ (omega arith) (omega arith))
