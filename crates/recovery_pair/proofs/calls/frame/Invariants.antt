use Rattle.std.proofs.Common.{◌≡◌, ◌≤◌, length, drop}
use Rattle.recovery_pair.proofs.FrameLaws.{frame_of}
use Rattle.recovery_pair.proofs.calls.frame.Given as goal

abbrev pub invariant-loop-at : goal.invariant-loop-at
invariant-loop-at g l = record {
  listed : l.ranges.items ≡ frame_of (drop l.at l.all);
  within : l.at ≤ length l.all;
}

abbrev pub decreases-loop-at : goal.decreases-loop-at
decreases-loop-at g l = l.at
