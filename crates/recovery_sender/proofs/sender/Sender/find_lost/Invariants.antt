use Rattle.std.proofs.Common.{◌+◌, ◌≤◌, ◌-◌, length}
use Rattle.std.specs.Vec.{vec_capacity}
use Rattle.recovery_losses.proofs.RoomLaws.{count_between}
use Rattle.recovery_sender.specs.Detection.{HasScanned}
use Rattle.recovery_sender.specs.Senders.{state_in}
use Rattle.recovery_sender.specs.Spaces.{packets_in}
use Rattle.recovery_sender.proofs.sender.Sender.find_lost.Given as goal

abbrev pub invariant-loop-packet : goal.invariant-loop-packet
invariant-loop-packet g l = record {
  finds : HasScanned l.fn.look l.fn.self l.from l.numbers.items l.tally l.self;
  within : l.from ≤ l.fn.look.largest;
  room : length l.numbers.items
      + count_between l.from l.fn.look.largest (packets_in (state_in l.self) l.fn.look.space)
      ≤ vec_capacity l.numbers;
}

abbrev pub decreases-loop-packet : goal.decreases-loop-packet
decreases-loop-packet g l = l.fn.look.largest - l.from
