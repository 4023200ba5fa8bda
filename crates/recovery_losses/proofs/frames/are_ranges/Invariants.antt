use Rattle.recovery_losses.proofs.FrameLaws.{AreSeen}
use Rattle.recovery_losses.proofs.frames.are_ranges.Given as goal

abbrev pub invariant-loop-first : goal.invariant-loop-first
invariant-loop-first l = AreSeen l.ranges l.first-index l.above
