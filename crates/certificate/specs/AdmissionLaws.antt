-- Laws of the rows' lengths. Assumes nothing.
use Rattle.std.specs.Prelude.{◌*◌, ◌≤◌}
use Rattle.std.proofs.Common.{arith}
use Rattle.book.specs.IndexLaws.{mul_small}
use Rattle.book.specs.RangeLaws.{Small}
use Rattle.book.specs.declared.Sizes.{Sizes}
use Rattle.layers.specs.Crossing.{room}

-- none of the products wraps
pub record RoomSmall (d : Sizes) : Type 0 where
  pub gotos : d.s * d.n ≤ 4096
  pub rows : d.s * d.n * d.t ≤ 131072
  pub crossings : room d ≤ 4194304
  pub pairs : d.s * d.t ≤ 4096

pub room_small : {d : Sizes} → Small d → RoomSmall d
room_small {d} s =
    let i : d.s * d.n ≤ 4096 = mul_small d.s 128 d.n 32 (omega arith) (omega arith) in
    let j : d.s * d.n * d.t ≤ 131072 = mul_small (d.s * d.n) 4096 d.t 32 (omega arith) (omega arith) in
    record {
      gotos = i;
      rows = j;
      crossings = mul_small (d.s * d.n * d.t) 131072 d.t 32 (omega arith) (omega arith);
      pairs = mul_small d.s 128 d.t 32 (omega arith) (omega arith);
    }
