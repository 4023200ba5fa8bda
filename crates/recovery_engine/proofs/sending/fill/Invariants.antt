use Rattle.std.proofs.Common.{◌≡◌, take, map}
use Rattle.recovery_engine.specs.Sending.{range_given}
use Rattle.recovery_engine.proofs.sending.fill.Given as goal

abbrev pub invariant-loop-range : goal.invariant-loop-range
invariant-loop-range l = l.ranges.items ≡ map range_given (take l.range-index l.given)
