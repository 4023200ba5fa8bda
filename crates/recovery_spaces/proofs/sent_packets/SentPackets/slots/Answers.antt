use Rattle.recovery_spaces.proofs.TrackedLaws.{has_slots}
use Rattle.recovery_spaces.proofs.sent_packets.SentPackets.slots.Goals as goal

pub returns : goal.returns
returns g c = rw (c.len.ensures, ← c.self.view_is) (has_slots c.self.invariant)
