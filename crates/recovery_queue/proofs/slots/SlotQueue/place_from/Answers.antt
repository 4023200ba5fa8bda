use Rattle.recovery_queue.proofs.SlotEntryLaws.{divided}
use Rattle.recovery_queue.proofs.slots.SlotQueue.place_from.Goals as goal

pub returns-clause-entries : goal.returns-clause-entries
returns-clause-entries g c = divided _ _ _ c.start_of-place.ensures.divides
