-- `search::descend::search_with` meets its contract. Assumes nothing.
use native.Mathlib.Omega.{arith}
use mathlib.Core.Path.{refl}
use Rattle.search.specs.SearchLaws.{search-top, search-alone, search-stuck}
use Rattle.search.proofs.descend.search_with.Goals as goal

pub returns-then-add-r-clause-searched : goal.returns-then-add-r-clause-searched
returns-then-add-r-clause-searched c =
    search-top c.args.stack.now (omega (arith, c.if-n-eq0.false)) refl refl (rw (c.add.ensures, c.cost_to_go-v.ensures) at c.if-add-r.true)

pub returns-then-n-eq1-clause-searched : goal.returns-then-n-eq1-clause-searched
returns-then-n-eq1-clause-searched c =
    let p = c.requires in
    search-alone c.args.stack.now (omega (arith, c.if-n-eq1.true)) c.if-n-eq1.true (omega (arith, p.a_lt_t.1)) refl (rw (c.add.ensures, c.cost_to_go-v.ensures) at c.if-add-r.false)

pub returns-then-stuck-clause-searched : goal.returns-then-stuck-clause-searched
returns-then-stuck-clause-searched c =
    let p = c.requires in
    search-stuck c.args.stack.now (omega (arith, c.if-n-eq0.false)) p.usable.skips (c.stuck.ensures c.if-stuck.true) (omega (arith, p.a_lt_t.1)) refl (rw (c.add.ensures, c.cost_to_go-v.ensures) at c.if-add-r.false)
