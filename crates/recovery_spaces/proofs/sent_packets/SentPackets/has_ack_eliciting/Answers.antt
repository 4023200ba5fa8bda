use Rattle.std.proofs.Common.{arith}
use Rattle.std.proofs.lemmas.Bool.Decides.{nat_tests}
use Rattle.recovery_queue.specs.Slots.{entries_in}
use Rattle.recovery_spaces.proofs.PacketLaws.{eliciting_counted}
use Rattle.recovery_spaces.proofs.sent_packets.SentPackets.has_ack_eliciting.Goals as goal

pub returns : goal.returns
returns g c =
    rw (← c.self.view_is)
    (grind (arith, nat_tests, c.self.invariant, eliciting_counted (entries_in c.self.inside.packets)))
