use Prim.Native.Nat.{◌-◌}
use Rattle.waiting.proofs.expansion.+expand_after.Given as goal

-- how many layers there can still be
abbrev pub decreases-expand_after : goal.decreases-expand_after
decreases-expand_after l = 31 - l.m
