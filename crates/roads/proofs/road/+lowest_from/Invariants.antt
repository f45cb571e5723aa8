use Prim.Native.Nat.{◌-◌}
use Rattle.roads.proofs.road.+lowest_from.Given as goal

-- the layers that are left
abbrev pub decreases-lowest_from : goal.decreases-lowest_from
decreases-lowest_from l = l.len - l.m
