use Rattle.std.proofs.Common.{refl, arith}
use Rattle.recovery_queue.proofs.SlotEntryLaws.{last_read}
use Rattle.recovery_queue.proofs.slots.last_of.Goals as goal

pub returns-in-Some : goal.returns-in-Some
returns-in-Some g c =
    last_read c.args.slots.now.items c.in-Some.slot.now _ (omega arith) (c.in-Some.ensures.variant.0 refl)
    c.in-Some.ensures.lookup
