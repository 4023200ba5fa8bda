use Rattle.std.proofs.Common.{◌-◌, ◌<◌, ◌≤◌}
use Rattle.recovery_cubic.specs.Curve.{cube}
use Rattle.recovery_cubic.proofs.curve.cube_root.Given as goal

abbrev pub invariant-loop-above : goal.invariant-loop-above
invariant-loop-above l = (cube l.root ≤ l.n) × (l.n < cube l.above) × (l.root < l.above) × (l.above ≤ 6981463658332)

abbrev pub decreases-loop-above : goal.decreases-loop-above
decreases-loop-above l = l.above - l.root
