use Rattle.std.proofs.Common.{arith}
use Rattle.recovery_queue.proofs.SlotEntryLaws.{held_numbered}
use Rattle.recovery_queue.proofs.slots.SlotQueue.place_of.Goals as goal

pub returns-in-None-clause-number : goal.returns-in-None-clause-number
returns-in-None-clause-number g c = grind (arith, c.ok.ensures, c.search.ensures.held, held_numbered)
