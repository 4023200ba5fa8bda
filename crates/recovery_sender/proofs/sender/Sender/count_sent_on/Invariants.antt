use Rattle.std.proofs.Common.{◌≡◌, ◌≤◌, take}
use Rattle.recovery_sender.specs.Acking.{count_sent_on}
use Rattle.recovery_sender.specs.Senders.{state_in}
use Rattle.recovery_sender.proofs.sender.Sender.count_sent_on.Given as goal

abbrev pub invariant-loop-number : goal.invariant-loop-number
invariant-loop-number g l = record {
  counts : l.count ≡ count_sent_on (state_in l.fn.self) l.fn.space (take l.number-index l.fn.numbers);
  within : l.count ≤ l.number-index;
}
