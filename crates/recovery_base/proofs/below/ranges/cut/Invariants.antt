use Rattle.std.proofs.Common.{◌≡◌, ◌++◌, map, take, drop}
use Rattle.recovery_base.specs.Ranges.{clipped}
use Rattle.recovery_base.proofs.below.ranges.cut.Given as goal

abbrev pub invariant-loop-range : goal.invariant-loop-range
invariant-loop-range l = l.range-items ≡ map (clipped l.start l.end) (take l.range-index l.initial.range-items)
    ++ drop l.range-index l.initial.range-items
