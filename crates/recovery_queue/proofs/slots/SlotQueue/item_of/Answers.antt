use Rattle.std.proofs.Common.{sym, ◌∙◌, ap, length, arith}
use Rattle.recovery_queue.proofs.SlotLaws.{slot_read}
use Rattle.recovery_queue.proofs.SlotEntryLaws.{numbered_within, numbered_read}
use Rattle.recovery_queue.proofs.slots.SlotQueue.item_of.Goals as goal

pub index-requires : goal.index-requires
index-requires g c =
    omega (arith, numbered_within c.in_ok-place.ensures.number, ap length c.self.view_is)

pub returns-in-Some : goal.returns-in-Some
returns-in-Some g c =
    sym c.in-Some.is
    ∙ numbered_read c.index.result.now c.in_ok-place.ensures.rises c.in_ok-place.ensures.number
    (slot_read c.self.view_is (numbered_within c.in_ok-place.ensures.number) c.index.ensures)

pub returns-in-None : goal.returns-in-None
returns-in-None g c =
    sym c.in-None.is
    ∙ numbered_read c.index.result.now c.in_ok-place.ensures.rises c.in_ok-place.ensures.number
    (slot_read c.self.view_is (numbered_within c.in_ok-place.ensures.number) c.index.ensures)
