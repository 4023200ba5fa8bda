use Rattle.std.proofs.Common.{◌≡◌}
use Rattle.recovery_queue.specs.Slots.{trimmed}
use Rattle.recovery_queue.proofs.slots.trim.Given as goal

abbrev pub invariant-loop-slot : goal.invariant-loop-slot
invariant-loop-slot g l = trimmed l.slots.items ≡ trimmed l.fn.slots.items

abbrev pub decreases-loop-slot : goal.decreases-loop-slot
decreases-loop-slot g l = l.slots.len
