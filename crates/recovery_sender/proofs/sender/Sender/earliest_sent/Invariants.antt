use Rattle.std.proofs.Common.{◌-◌, ◌≤◌}
use Rattle.recovery_losses.specs.Losses.{IsEarliestSent}
use Rattle.recovery_sender.specs.Senders.{state_in}
use Rattle.recovery_sender.specs.Spaces.{packets_in}
use Rattle.recovery_sender.proofs.sender.Sender.earliest_sent.Given as goal

abbrev pub invariant-loop-packet : goal.invariant-loop-packet
invariant-loop-packet g l = record {
  sent : IsEarliestSent (packets_in (state_in l.fn.self) l.fn.look.space) l.from l.earliest;
  within : l.from ≤ l.fn.look.largest;
}

abbrev pub decreases-loop-packet : goal.decreases-loop-packet
decreases-loop-packet g l = l.fn.look.largest - l.from
