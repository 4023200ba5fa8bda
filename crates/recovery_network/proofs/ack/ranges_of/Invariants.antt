use Rattle.recovery_network.proofs.AckFrameLaws.{AreListed}
use Rattle.recovery_network.proofs.ack.ranges_of.Given as goal

abbrev pub invariant-loop-at : goal.invariant-loop-at
invariant-loop-at l = AreListed l.all l.at l.ranges.items

abbrev pub decreases-loop-at : goal.decreases-loop-at
decreases-loop-at l = l.at
