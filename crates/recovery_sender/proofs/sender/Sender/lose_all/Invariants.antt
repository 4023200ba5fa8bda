use Rattle.std.proofs.Common.{◌+◌, ◌-◌, ◌≤◌, length}
use Rattle.std.specs.Vec.{vec_capacity}
use Rattle.recovery_base.specs.Units.{u64_limit}
use Rattle.recovery_losses.proofs.RoomLaws.{count_between}
use Rattle.recovery_sender.specs.Senders.{state_in}
use Rattle.recovery_sender.specs.Spaces.{packets_in}
use Rattle.recovery_sender.proofs.RetransmitAllLaws.{TriesBelow}
use Rattle.recovery_sender.proofs.sender.Sender.lose_all.Given as goal

abbrev pub invariant-loop-number : goal.invariant-loop-number
invariant-loop-number g l = record {
  tries : TriesBelow l.fn.space l.fn.self l.from l.numbers.items l.is_cut l.self;
  room : length l.numbers.items + count_between l.from u64_limit (packets_in (state_in l.self) l.fn.space)
      ≤ vec_capacity l.numbers;
  within : l.from ≤ u64_limit;
}

abbrev pub decreases-loop-number : goal.decreases-loop-number
decreases-loop-number g l = u64_limit - l.from
