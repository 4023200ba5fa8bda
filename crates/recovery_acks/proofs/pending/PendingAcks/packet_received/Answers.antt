use Rattle.std.proofs.Common.{true, false, not, sym, ap}
use Rattle.recovery_base.specs.Received.{HasReceived}
use Rattle.recovery_acks.proofs.AckLaws.{reaches, eliciting_receives, received}
use Rattle.recovery_acks.proofs.pending.PendingAcks.packet_received.Goals as goal

pub is_out_of_order-out_of_order-requires-clause-reached : goal.is_out_of_order-out_of_order-requires-clause-reached
is_out_of_order-out_of_order-requires-clause-reached c = rw (c.max-greatest.ensures, c.unwrap_or-before.ensures)
    (reaches (HasReceived c.args.dedup.now) c.self.inside.largest_ack_eliciting_packet c.args.packet_number
    c.requires.number
    (rw (← c.self.view_is) at c.requires.earlier))

pub returns-then-is_noticed-clause-receives : goal.returns-then-is_noticed-clause-receives
returns-then-is_noticed-clause-receives c = rw (← c.self.view_is)
    (eliciting_receives _ _ _ _ _ _ _ c.if-not-ack_eliciting.false (received _
    (rw c.unwrap_or-before.ensures at c.max-greatest.ensures) c.saturating_add-self-inside-2.ensures
    (rw c.unwrap_or-before.ensures at c.is_out_of_order-out_of_order.ensures) c.is_any-self-inside.ensures
    c.may_send-can_send.ensures c.is_noticed.ensures false (ap not (sym c.if-is_noticed.true))))

pub returns-clause-receives : goal.returns-clause-receives
returns-clause-receives c = rw (← c.self.view_is) (eliciting_receives _ _ _ _ _ _ _ c.if-not-ack_eliciting.false
    (received _
    (rw c.unwrap_or-before.ensures at c.max-greatest.ensures) c.saturating_add-self-inside-2.ensures
    (rw c.unwrap_or-before.ensures at c.is_out_of_order-out_of_order.ensures) c.is_any-self-inside.ensures
    c.may_send-can_send.ensures c.is_noticed.ensures true (ap not (sym c.if-is_noticed.false))))
