use Rattle.std.proofs.Common.{arith}
use Rattle.recovery_queue.proofs.SlotEntryLaws.{entries_fit}
use Rattle.recovery_queue.proofs.slots.SlotQueue.filled.Goals as goal

pub returns-clause-few : goal.returns-clause-few
returns-clause-few g c = rw (← c.self.view_is) (omega (arith, entries_fit c.self.inside.slots.items))

pub returns-clause-count : goal.returns-clause-count
returns-clause-count g c = rw (← c.self.view_is) c.self.invariant.count
