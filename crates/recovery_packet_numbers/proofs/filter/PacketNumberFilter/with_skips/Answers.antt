use Rattle.recovery_packet_numbers.proofs.filter.PacketNumberFilter.with_skips.Goals as goal

pub returns-in-Starting : goal.returns-in-Starting
returns-in-Starting g c = rw c.in-Starting.is (c.starting.ensures (g.R.Rng.stream c.args.rng.now))

pub returns-in-Disabled : goal.returns-in-Disabled
returns-in-Disabled g c = rw c.in-Disabled.is (c.disabled.ensures (g.R.Rng.stream c.args.rng.now))
