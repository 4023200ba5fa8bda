use Rattle.recovery_spaces.proofs.TrackedLaws.{finds_packet}
use Rattle.recovery_spaces.proofs.sent_packets.SentPackets.find.Goals as goal

pub returns : goal.returns
returns g c = rw (← c.self.view_is) (finds_packet c.self.invariant c.find.ensures)
