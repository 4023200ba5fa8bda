use Rattle.std.proofs.Common.{[], ◌∷◌, Some, arith, length-append}
use Rattle.recovery_queue.specs.declared.slots.Slot.{Slot}
use Rattle.recovery_queue.proofs.SlotEntryLaws.{entries_fit, entries-append, rises_pushed, ends_pushed}
use Rattle.recovery_queue.proofs.slots.SlotQueue.push.Goals as goal

pub overflow_add-self : goal.overflow_add-self
overflow_add-self g c = omega (arith, entries_fit c.self.inside.slots.items)

pub invariant_of-self-2 : goal.invariant_of-self-2
invariant_of-self-2 g c =
    let slot : Slot g.row.T.Denot = record { number = c.args.number; item = Some c.args.item } in
    let first = c.first_with-self-inside.ensures.rising
    (c.cut.ensures.rising c.self.inside.first (rw c.in_ok-reserve.ensures.items c.self.invariant.rising)) in
    let front = c.first_with-self-inside.ensures.first
    (c.cut.ensures.first c.self.inside.first (rw c.in_ok-reserve.ensures.items c.self.invariant.first_is)) in
    let ends = ends_pushed c.cut.new.slots.items _ _ (Some c.args.item) front in
    rw c.push_back_reserved.ensures.items (record {
      count = grind (arith, entries-append c.cut.new.slots.items (slot ∷ []), c.cut.ensures.entries, length-append);
      rising = rises_pushed c.cut.new.slots.items _ _ _ first.0 first.1;
      first_is = ends.0;
      last_is = ends.1;
    })

pub returns-clause-ok : goal.returns-clause-ok
returns-clause-ok g c =
    let slot : Slot g.row.T.Denot = record { number = c.args.number; item = Some c.args.item } in
    cc (entries-append c.cut.new.slots.items (slot ∷ []))
