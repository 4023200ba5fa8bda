use Rattle.recovery_queue.specs.Slots.{entries_in}
use Rattle.recovery_spaces.specs.Packets.{AreBelow}
use Rattle.recovery_parts_tests.proofs.slots.queued.Given as goal

abbrev pub invariant-loop-number : goal.invariant-loop-number
invariant-loop-number g l = AreBelow (entries_in l.slots) l.number-counter
