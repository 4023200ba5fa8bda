use Rattle.std.proofs.Common.{arith}
use Rattle.recovery_spaces.proofs.CarryLaws.{carried, moved_taken}
use Rattle.recovery_spaces.proofs.PacketLaws.{without-absent}
use Rattle.recovery_spaces.specs.Spaces.{packets_of}
use Rattle.recovery_spaces.proofs.spaces.PacketSpace.lose.Goals as goal

pub returns-clause-packet : goal.returns-clause-packet
returns-clause-packet g c =
    rw (c.take.ensures.packet, c.in_ok-queue_lost.ensures.after)
    (carried (packets_of c.args.self.now) c.args.number g.Q.RetransmitQueue.words.empty
    g.Q.RetransmitQueue.words.empty).0

pub returns-clause-step : goal.returns-clause-step
returns-clause-step g c =
    rw (c.take.ensures.after, c.in_ok-queue_lost.ensures.after)
    (moved_taken g.Q.RetransmitQueue.words c.args.number c.args.self.now)

pub returns-clause-none : goal.returns-clause-none
returns-clause-none g c =
    grind (
      arith,
      returns-clause-packet g c,
      returns-clause-step g c,
      without-absent (packets_of c.args.self.now) c.args.number,
    )
