use Rattle.std.proofs.Common.{ap, length, arith}
use Rattle.recovery_queue.specs.Slots.{entries_in}
use Rattle.recovery_queue.proofs.SlotLaws.{slot_read}
use Rattle.recovery_queue.proofs.SlotEntryLaws.{numbered, numbered_within, all_from}
use Rattle.recovery_queue.proofs.SlotWalkLaws.{walk_begun, lower, none_before, walk_found}
use Rattle.recovery_queue.proofs.slots.SlotQueue.entry_between.Goals as goal

pub returns-then-from-end-clause-none : goal.returns-then-from-end-clause-none
returns-then-from-end-clause-none g c =
    lower _ _ c.args.from c.if-from-end.true (all_from (entries_in {T = g.row.T.Denot} c.args.self.now) c.args.from)

pub returns-then-self-end-clause-none : goal.returns-then-self-end-clause-none
returns-then-self-end-clause-none g c =
    lower _ _ c.self.inside.first c.if-self-end.true
    (rw (← c.self.view_is) (none_before _ c.self.inside.first _ c.args.from c.self.invariant.rising))

pub index-requires : goal.index-requires
index-requires g c = omega (arith, numbered_within c.in-Some.ensures.number, ap length c.self.view_is)

pub returns-in-Some-item-clause-first : goal.returns-in-Some-item-clause-first
returns-in-Some-item-clause-first g c =
    let its = c.in-Some.ensures.number in
    let at = slot_read c.self.view_is (numbered_within its) c.index.ensures in
    let walk = walk_begun c.in-Some.ensures.rises c.in-Some.ensures.divides in (
      c.if-from-end.false,
      rw (numbered c.index.result.now c.in-Some.ensures.rises its at).0 at
          (walk_found {end = c.args.end} c.index.result.now walk at c.in-Some-item.is),
    )

pub returns-in-Some-item-clause-lowest : goal.returns-in-Some-item-clause-lowest
returns-in-Some-item-clause-lowest g c = all_from (entries_in {T = g.row.T.Denot} c.args.self.now) c.args.from
