-- `forms::ranks::rank_at` meets its contract. Assumes nothing.
use native.Mathlib.Omega.{arith}
use Rattle.forms.proofs.WritingLaws.{bounds}
use Rattle.forms.specs.RankLaws.{rank-told, rank-number}
use Rattle.forms.proofs.ranks.rank_at.Goals as goal

pub overflow_mul-result : goal.overflow_mul-result
overflow_mul-result c =
    let b = bounds _ _ c.requires.accepted in omega (arith, b.productions)

pub overflow_add-result : goal.overflow_add-result
overflow_add-result c =
    let b = bounds _ _ c.requires.accepted in omega (arith, b.productions)

pub overflow_add-result-then-d-eq2 : goal.overflow_add-result-then-d-eq2
overflow_add-result-then-d-eq2 c =
    let b = bounds _ _ c.requires.accepted in omega (arith, b.productions, b.terminals, c.requires.a_lt_t)

pub offset_bounds-cells-d : goal.offset_bounds-cells-d
offset_bounds-cells-d c =
    let b = bounds _ _ c.requires.accepted in omega (arith, b.productions, b.terminals, c.requires.a_lt_t)

pub bounds-cells-d : goal.bounds-cells-d
bounds-cells-d c =
    let b = bounds _ _ c.requires.accepted in omega (arith, rw c.if-d-eq2.true at b.start, c.requires.a_lt_t)

pub returns-then-d-eq2 : goal.returns-then-d-eq2
returns-then-d-eq2 c = rw (rank-told _ _ c.requires.accepted c.args.a c.if-d-eq2.true)

pub overflow_cast-result : goal.overflow_cast-result
overflow_cast-result c =
    let b = bounds _ _ c.requires.accepted in omega (arith, b.terminals, c.requires.a_lt_t)

pub returns : goal.returns
returns c = rw (rank-number _ _ c.requires.accepted c.args.a c.if-d-eq2.false)
