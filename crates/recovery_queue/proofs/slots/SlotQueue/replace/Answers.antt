use Rattle.std.proofs.Common.{arith, refl}
use Rattle.recovery_queue.proofs.SlotLaws.{slot_read}
use Rattle.recovery_queue.proofs.SlotEntryLaws.{entries_fit, replaced_sound, replaced_ends}
use Rattle.recovery_queue.proofs.slots.SlotQueue.replace.Goals as goal

pub overflow_add-self : goal.overflow_add-self
overflow_add-self g c = grind (arith, entries_fit c.self.inside.slots.items)

pub overflow_sub-self : goal.overflow_sub-self
overflow_sub-self g c = grind (
  arith,
  (replaced_sound _ _ _ _ _ c.args.item c.self.invariant.rising
      (slot_read refl (rw (← c.self.view_is) at c.requires) c.index_mut-slot.ensures.value)).0,
)

pub invariant_of-self : goal.invariant_of-self
invariant_of-self g c =
    let sound = replaced_sound _ _ _ _ _ c.args.item c.self.invariant.rising
    (slot_read refl (rw (← c.self.view_is) at c.requires) c.index_mut-slot.ensures.value) in
    let ends = replaced_ends _ _ _ _ _ c.args.item c.self.invariant.first_is c.self.invariant.last_is
    (slot_read refl (rw (← c.self.view_is) at c.requires) c.index_mut-slot.ensures.value) in
    rw c.replace-old.ensures.after (record {
      count = grind (arith, sound.0);
      rising = sound.1;
      first_is = ends.0;
      last_is = ends.1;
    })

pub returns : goal.returns
returns g c = rw c.replace-old.ensures.after (record {
  slot = c.index_mut-slot.result.now;
  at = slot_read c.self.view_is c.requires c.index_mut-slot.ensures.value;
  found_is = c.replace-old.ensures.value;
  left = rw (← c.self.view_is) refl;
})
