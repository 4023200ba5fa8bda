use Rattle.std.proofs.Common.{refl, ap, ◌∙◌, arith}
use Rattle.std.specs.Option.{is_some}
use Rattle.recovery_queue.proofs.SlotLaws.{slot_read}
use Rattle.recovery_queue.proofs.SlotEntryLaws.{replaced_sound, replaced_ends, numbered_within, numbered_read, exchanged_at}
use Rattle.recovery_queue.proofs.slots.SlotQueue.exchange.Goals as goal

pub index_mut-slot-requires : goal.index_mut-slot-requires
index_mut-slot-requires g c = grind (arith, c.self.view_is, numbered_within c.in-Some.ensures.number)

pub invariant_of-self : goal.invariant_of-self
invariant_of-self g c =
    let within = rw (← c.self.view_is) at (numbered_within c.in-Some.ensures.number) in
    let at = slot_read refl within c.index_mut-slot.ensures.value in
    let sound = replaced_sound _ _ _ _ _ c.exchange_in.new.item c.self.invariant.rising at in
    let ends =
    replaced_ends _ _ _ _ _ c.exchange_in.new.item c.self.invariant.first_is c.self.invariant.last_is at in record {
      count = grind (arith, c.self.invariant.count, sound.0, c.exchange_in.ensures);
      rising = sound.1;
      first_is = ends.0;
      last_is = ends.1;
    }

pub returns-clause-found : goal.returns-clause-found
returns-clause-found g c =
    let its = c.in-Some.ensures.number in
    c.exchange_in.ensures.found ∙ ap is_some (numbered_read c.index_mut-slot.result.now c.in-Some.ensures.rises its
    (slot_read c.self.view_is (numbered_within its) c.index_mut-slot.ensures.value))

pub returns-clause-after : goal.returns-clause-after
returns-clause-after g c =
    let its = c.in-Some.ensures.number in
    rw c.self.view_is (exchanged_at g.T.Exchange.exchanged c.index_mut-slot.result.now c.in-Some.ensures.rises its
    (slot_read c.self.view_is (numbered_within its) c.index_mut-slot.ensures.value) _ _ _ c.exchange_in.ensures.after)
