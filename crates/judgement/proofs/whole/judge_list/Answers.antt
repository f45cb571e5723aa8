-- `judgement::whole::judge_list` meets its contract: what is admitted is judged, and the lent cells are cleared. Assumes nothing.
use mathlib.Core.Path.{sym}
use native.Mathlib.Omega.{arith}
use Rattle.std.proofs.lemmas.Result.{err_from_is_err_and}
use Rattle.book.proofs.TablesLaws.{accepted-book}
use Rattle.course.specs.AcceptedLaws.{list-accepted, accepted-standing}
use Rattle.judgement.specs.AdmissionLaws.{judge-room, judge-unroomed, judge-answered}
use Rattle.judgement.proofs.whole.judge_list.Goals as goal

pub admit_room-requires : goal.admit_room-requires
admit_room-requires c = (accepted-book _ _ c.requires.accepted).small

pub returns-in_err-admit_room : goal.returns-in_err-admit_room
returns-in_err-admit_room c =
    let q = err_from_is_err_and c.from_residual.result c.from_residual.ensures.1 in
    let p = c.requires in
    let a = c.args in
    rw (q.1, q.2) (judge-unroomed a.cells.now a.list.now a.work.now a.stack.now p.accepted (list-accepted _ _ p.list_value) (sym c.in_err-admit_room.ensures))

pub judge_from-found-requires : goal.judge_from-found-requires
judge_from-found-requires c =
    let p = c.requires in
    let m = judge-room _ _ _ (sym c.in_ok-admit_room.ensures) in
    record {
      accepted = p.accepted;
      entries_standing = accepted-standing _ (list-accepted _ _ p.list_value);
      d_in_bounds = omega (arith, m.0);
      in_bounds = m.1;
    }

pub work_cells-n-requires : goal.work_cells-n-requires
work_cells-n-requires c = (accepted-book _ _ c.requires.accepted).small

pub clear-requires : goal.clear-requires
clear-requires c = omega (arith, (judge-room _ _ _ (sym c.in_ok-admit_room.ensures)).0)

pub clear-requires-2 : goal.clear-requires-2
clear-requires-2 c = omega (arith, (judge-room _ _ _ (sym c.in_ok-admit_room.ensures)).1)

pub returns : goal.returns
returns c =
    let p = c.requires in
    let a = c.args in
    let j = c.judge_from-found in
    judge-answered a.cells.now a.list.now a.work.now a.stack.now p.accepted j.new.stack (list-accepted _ _ p.list_value) (sym c.in_ok-admit_room.ensures)
    j.ensures.judged j.ensures.beyond c.work_cells-n.ensures c.clear.ensures j.ensures.stack_unchanged c.clear-2.ensures
