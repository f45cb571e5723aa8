-- `pieces::pieces::measure` meets its contract: state by state, what is left of the room. Assumes nothing.
use mathlib.Core.Path.{sym}
use native.Mathlib.Omega.{arith}
use Prim.Native.Nat.{◌+◌}
use lib.ListN.{get_or}
use Rattle.sorting.specs.UpToLaws.{up-to-none, up-to-length, up-to-part}
use Rattle.pieces.specs.Pieces.{piece_of}
use Rattle.pieces.specs.PiecesLaws.{count-zero, count-more, count-few}
use Rattle.pieces.proofs.pieces.measure.Goals as goal

pub loop-s-init : goal.loop-s-init
loop-s-init c =
    let a = c.args in
    (omega (arith, up-to-none (piece_of a.first.now a.places.now a.second.now a.others.now)), sym (count-zero _ _), omega arith)

pub returns-then-left-n : goal.returns-then-left-n
returns-then-left-n c =
    let a = c.args in
    let s = c.loop-s.s in
    let most = up-to-part (piece_of a.first.now a.places.now a.second.now a.others.now) (s + 1) a.states (omega arith) in
    omega (arith, c.piece_size-n.ensures, up-to-length (piece_of a.first.now a.places.now a.second.now a.others.now) s, most)

pub overflow_add-count : goal.overflow_add-count
overflow_add-count c = omega (arith, c.entry_count-count.ensures, count-few (get_or c.args.places.now c.loop-s.s 0) (get_or c.args.others.now c.loop-s.s 0))

pub loop-s-preserved : goal.loop-s-preserved
loop-s-preserved c =
    let a = c.args in
    let s = c.loop-s.s in (
      omega (arith, c.piece_size-n.ensures, up-to-length (piece_of a.first.now a.places.now a.second.now a.others.now) s),
      omega (arith, c.entry_count-count.ensures, count-more a.places.now a.others.now s),
      omega (arith, c.entry_count-count.ensures, count-few (get_or a.places.now s 0) (get_or a.others.now s 0)),
    )
