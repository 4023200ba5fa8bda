use Rattle.std.proofs.Common.{◌+◌, refl}
use Rattle.recovery_queue.proofs.SlotLaws.{slot_read, divides_at}
use Rattle.recovery_queue.proofs.slots.SlotQueue.get.Goals as goal

pub returns-in-Some-clause-slot : goal.returns-in-Some-clause-slot
returns-in-Some-clause-slot g c =
    rw (← c.in-Some.is) (slot_read c.self.view_is c.requires c.index-slot.ensures)

pub returns-in-Some-clause-divides : goal.returns-in-Some-clause-divides
returns-in-Some-clause-divides g c =
    divides_at _ _ _ c.index-slot.result.now
    (c.self.inside.first, c.self.inside.last + 1, rw (← c.self.view_is) c.self.invariant.rising)
    (slot_read c.self.view_is c.requires c.index-slot.ensures) refl

pub returns-in-None-clause-slot : goal.returns-in-None-clause-slot
returns-in-None-clause-slot g c =
    (c.index-slot.result.now, slot_read c.self.view_is c.requires c.index-slot.ensures, c.in-None.is)
