use Rattle.std.proofs.Common.{sym, ap, subst, ◌∙◌}
use Rattle.recovery_queue.specs.Queues.{IsVoid}
use Rattle.recovery_queue.specs.Slots.{entries_in}
use Rattle.recovery_queue.proofs.SlotEntryLaws.{not_both, drop_slot, entries_dropped, divided}
use Rattle.recovery_spaces.specs.Packets.{Packet}
use Rattle.recovery_spaces.proofs.TrackedLaws.{passes_below, void_here, passes_next}
use Rattle.recovery_spaces.proofs.sent_packets.first_filled.Goals as goal
use Rattle.recovery_spaces.proofs.sent_packets.first_filled.Goals.{then-are_void, else-are_void}

pub loop-place-init : goal.loop-place-init
loop-place-init g c =
    rw c.place_from-place.ensures.entries (passes_below _ _ _ _ _ c.requires)

pub loop-place-preserved-in_default : goal.loop-place-preserved-in_default
loop-place-preserved-in_default g c =
    let empty = c.in_default.ensures.slot in
    rw (← entries_dropped c.args.packets.now c.loop-place.place _ empty.1 empty.2) c.loop-place.invariant

pub returns-then-not-is_empty-clause-number : goal.returns-then-not-is_empty-clause-number
returns-then-not-is_empty-clause-number g c =
    (passes_next _ c.loop-place.invariant _
    (ap (λ ss. entries_in ss) (drop_slot c.args.packets.now c.loop-place.place _ c.in-Some.ensures.slot))
    c.packet.view_is c.is_empty.ensures).0 c.if-not-is_empty.true

pub returns-then-not-is_empty-clause-void : goal.returns-then-not-is_empty-clause-void
returns-then-not-is_empty-clause-void g c =
    elim c.if-are_void.branch [
      | then-are_void w ↦ rw w.from-is (void_here _ c.loop-place.invariant _ (divided _ _ _ c.in-Some.ensures.divides)
          w.if-are_void.true)
      | else-are_void w ↦ rw w.from-is c.loop-place.invariant.below
    ]

pub loop-place-preserved : goal.loop-place-preserved
loop-place-preserved g c =
    (passes_next _ c.loop-place.invariant _
    (ap (λ ss. entries_in ss) (drop_slot c.args.packets.now c.loop-place.place _ c.in-Some.ensures.slot))
    c.packet.view_is c.is_empty.ensures).1 c.if-not-is_empty.false _ _
    (elim c.if-are_void.branch [
      | then-are_void w ↦ rw w.from-is (void_here _ c.loop-place.invariant _ (divided _ _ _ c.in-Some.ensures.divides)
          w.if-are_void.true)
      | else-are_void w ↦ rw w.from-is c.loop-place.invariant.below
    ])
    (elim c.if-are_void.branch [
      | then-are_void w ↦ λ yes. (
        w.if-are_void.true,
        subst (λ (p : Packet _ _). IsVoid g.Q.RetransmitQueue.words p.retransmits) c.packet.view_is
            (w.is_void-are_void.ensures (sym w.are_void-is ∙ yes)),
      )
      | else-are_void w ↦ λ yes. absurd (not_both (sym w.are_void-is ∙ yes) w.if-are_void.false)
    ])
