use Rattle.std.proofs.Common.{arith}
use Rattle.recovery_queue.proofs.SlotEntryLaws.{filed_before}
use Rattle.recovery_queue.proofs.slots.SlotQueue.filled_below.Goals as goal

pub returns-clause-enough : goal.returns-clause-enough
returns-clause-enough g c = rw (← c.self.view_is) (grind (
  arith,
  c.min.ensures,
  c.self.invariant.count,
  filed_before (rw (← c.self.view_is) at c.place_from.ensures.divides),
))
