use Rattle.std.proofs.Common.{◌≤◌, ◌+◌, ◌-◌}
use Rattle.recovery_sender.specs.Acks.{TrackedInRange}
use Rattle.recovery_sender.proofs.sender.acks.take_range.Given as goal

abbrev pub invariant-loop-number : goal.invariant-loop-number
invariant-loop-number g l = record {
  takes : TrackedInRange l.fn.packets.packets l.fn.first l.from l.fn.newly.numbers.items l.newly.numbers.items
      l.newly.elicits;
  above : l.fn.first ≤ l.from;
  within : l.from ≤ l.fn.last + 1;
}

abbrev pub decreases-loop-number : goal.decreases-loop-number
decreases-loop-number g l = l.fn.last + 1 - l.from
