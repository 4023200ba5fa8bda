use Rattle.std.proofs.Common.{None, ap, length, arith}
use Rattle.recovery_queue.proofs.SlotLaws.{slot_read}
use Rattle.recovery_queue.proofs.SlotEntryLaws.{numbered_within, found_there}
use Rattle.recovery_queue.proofs.slots.SlotQueue.find.Goals as goal

pub look-requires-clause-within : goal.look-requires-clause-within
look-requires-clause-within g c =
    rw c.over-looks.ensures.slots (omega (arith, numbered_within c.in-Some.ensures.number, ap length c.self.view_is))

pub returns-in-Some-item : goal.returns-in-Some-item
returns-in-Some-item g c =
    found_there c.look.result.now _ _ c.in-Some.ensures.rises c.in-Some.ensures.number
    (slot_read (rw c.over-looks.ensures.slots c.self.view_is) (numbered_within c.in-Some.ensures.number)
    c.look.ensures.slot) c.in-Some-item.is (omega arith)

pub returns-in-None : goal.returns-in-None
returns-in-None g c =
    found_there c.look.result.now None _ c.in-Some.ensures.rises c.in-Some.ensures.number
    (slot_read (rw c.over-looks.ensures.slots c.self.view_is) (numbered_within c.in-Some.ensures.number)
    c.look.ensures.slot) c.in-None.is (omega arith)
