use Rattle.std.proofs.Common.{◌≡◌, ◌≤◌}
use Rattle.recovery_queue.proofs.SlotEntryLaws.{Keeps}
use Rattle.recovery_queue.proofs.slots.cut_back.Given as goal

abbrev pub invariant-loop-slots : goal.invariant-loop-slots
invariant-loop-slots g l = record {
  kept : Keeps l.fn.slots.items l.slots.items;
  fewer : l.slots.len ≤ l.fn.slots.len;
  capacity : l.slots.cap ≡ l.fn.slots.cap;
}

abbrev pub decreases-loop-slots : goal.decreases-loop-slots
decreases-loop-slots g l = l.slots.len
