use Rattle.recovery_spaces.proofs.sent_packets.SentPackets.get.Goals as goal

pub returns : goal.returns
returns g c = rw (← c.self.view_is) c.item_of.ensures
