-- `layers::transition::lengthen` meets its contract: a cut at long leaves out nothing, and every state is wanted. Assumes nothing.
use Prim.Native.Nat.{ℕ}
use native.Mathlib.Omega.{arith}
use lib.ListN.{length-replicate}
use Rattle.walk.proofs.LayersLaws.{longer-whole}
use Rattle.layers.specs.LengthenLaws.{lengthened-all}
use Rattle.layers.proofs.transition.lengthen.Goals as goal

pub lengthen_within-requires : goal.lengthen_within-requires
lengthen_within-requires c =
    let p = c.requires in
    record {
      usable = p.usable;
      bound_bound = (omega arith, length-replicate {A = ℕ} 128 1);
      listed = p.listed;
    }

pub returns : goal.returns
returns c =
    record {
      sized = c.lengthen_within.ensures.sized;
      lengthened = lengthened-all c.requires.usable.fitted.holds _ _ (λ q z h. longer-whole (c.lengthen_within.ensures.lengthened_to q z h));
    }
