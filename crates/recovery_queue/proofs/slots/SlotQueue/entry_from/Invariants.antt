use Rattle.std.proofs.Common.{◌≡◌, drop}
use Rattle.recovery_queue.specs.Slots.{entries_in}
use Rattle.recovery_queue.proofs.slots.SlotQueue.entry_from.Given as goal

abbrev pub invariant-loop-place : goal.invariant-loop-place
invariant-loop-place g l = entries_in (drop l.place l.self) ≡ entries_in (drop l.initial.place l.self)
