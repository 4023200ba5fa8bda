use Rattle.std.proofs.Common.{inl, inr, ◌∙◌, arith}
use Rattle.recovery_spaces.proofs.CountLaws.{forgotten_is, none_forgotten}
use Rattle.recovery_spaces.proofs.sent_packets.SentPackets.forgotten.Goals as goal
use Rattle.recovery_spaces.proofs.sent_packets.SentPackets.forgotten.Goals.{then-packet-via-then-packet, then-packet-via-else-packet+then-self-lt-MAX_SILENT}

pub returns-clause-number : goal.returns-clause-number
returns-clause-number g c =
    c.first_silent.ensures.first ∙ forgotten_is c.self.invariant.counted c.self.view_is c.packet.view_is
    c.if-packet.false (omega arith)

pub returns-clause-least : goal.returns-clause-least
returns-clause-least g c = rw (← c.self.view_is) c.first_silent.ensures.least

pub returns-then-packet-clause-number : goal.returns-then-packet-clause-number
returns-then-packet-clause-number g c =
    none_forgotten c.self.invariant.counted c.self.view_is c.packet.view_is (elim c.then-packet.branch [
      | then-packet-via-then-packet w ↦ inl w.if-packet.true
      | then-packet-via-else-packet+then-self-lt-MAX_SILENT w ↦ inr w.if-self-lt-MAX_SILENT.true
    ])
