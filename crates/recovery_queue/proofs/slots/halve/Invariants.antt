use Rattle.std.proofs.Common.{◌≡◌, ◌-◌}
use Rattle.recovery_queue.proofs.SlotLaws.{Seeks}
use Rattle.recovery_queue.proofs.slots.halve.Given as goal

abbrev pub invariant-loop-low : goal.invariant-loop-low
invariant-loop-low g l = record {
  seeks : Seeks (l.to - l.from) l.fn.looks.slots.now.items l.number l.low l.high l.looks.count;
  slots : l.looks.slots.now ≡ l.fn.looks.slots.now;
}

abbrev pub decreases-loop-low : goal.decreases-loop-low
decreases-loop-low g l = l.high - l.low
