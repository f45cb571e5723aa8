use Prim.Native.Nat.{◌-◌}
use Rattle.crossings.proofs.crossing.+cross_layers.Given as goal

-- the layers that are left
abbrev pub decreases-cross_layers : goal.decreases-cross_layers
decreases-cross_layers l = l.len - l.m
