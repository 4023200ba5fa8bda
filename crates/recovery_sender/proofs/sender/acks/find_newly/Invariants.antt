use Rattle.std.proofs.Common.{◌≤◌, length}
use Rattle.recovery_sender.specs.Acks.{AreNewlyAcked}
use Rattle.recovery_sender.proofs.sender.acks.find_newly.Given as goal

abbrev pub invariant-loop-at : goal.invariant-loop-at
invariant-loop-at g l = record {
  newly : AreNewlyAcked l.fn.packets.packets l.fn.ranges l.at l.newly.numbers.items l.newly.elicits;
  within : l.at ≤ length l.fn.ranges;
}

abbrev pub decreases-loop-at : goal.decreases-loop-at
decreases-loop-at g l = l.at
