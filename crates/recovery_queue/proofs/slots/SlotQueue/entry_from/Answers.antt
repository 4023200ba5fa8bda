use Rattle.std.proofs.Common.{sym, subst, ◌∙◌, arith}
use Rattle.std.proofs.lemmas.List.{drop_all}
use Rattle.recovery_queue.specs.Slots.{AreFrom, entries_in}
use Rattle.recovery_queue.proofs.SlotEntryLaws.{drop_slot, entries_dropped, divided, all_from}
use Rattle.recovery_queue.proofs.slots.SlotQueue.entry_from.Goals as goal

pub returns-in-Some-clause-first : goal.returns-in-Some-clause-first
returns-in-Some-clause-first g c =
    grind (
      arith,
      c.loop-place.invariant,
      c.place_from-place.ensures.entries,
      drop_slot c.args.self.now c.loop-place.place _ c.in-Some.ensures.slot,
    )

pub returns-in-Some-clause-lowest : goal.returns-in-Some-clause-lowest
returns-in-Some-clause-lowest g c =
    subst (AreFrom {T = g.row.T.Denot} c.in-Some.found.0)
    (sym (divided _ _ _ c.in-Some.ensures.divides) ∙ c.loop-place.invariant ∙ c.place_from-place.ensures.entries)
    (all_from (entries_in {T = g.row.T.Denot} c.args.self.now) c.in-Some.found.0)

pub loop-place-preserved : goal.loop-place-preserved
loop-place-preserved g c =
    let empty = c.in_default.ensures.slot in
    sym (entries_dropped c.args.self.now c.loop-place.place _ empty.1 empty.2) ∙ c.loop-place.invariant

pub returns-clause-first : goal.returns-clause-first
returns-clause-first g c =
    grind (
      arith,
      c.loop-place.invariant,
      c.place_from-place.ensures.entries,
      drop_all c.loop-place.place c.args.self.now,
    )
