use Rattle.sorting.specs.UpToLaws.{PutUpTo}
use Rattle.pieces.specs.Pieces.{piece_of}
use Rattle.pieces.proofs.pieces.put_pieces.Given as goal

abbrev pub invariant-loop-s : goal.invariant-loop-s
invariant-loop-s l = PutUpTo (piece_of l.first l.places l.second l.others) l.start l.initial.out l.s l.at l.out
