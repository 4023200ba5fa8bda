use Rattle.std.proofs.Common.{arith}
use Rattle.recovery_spaces.proofs.TrackedLaws.{exchanged, tracked_carrying}
use Rattle.recovery_spaces.proofs.sent_packets.SentPackets.swap_queue.Goals as goal

pub invariant_of-self-2 : goal.invariant_of-self-2
invariant_of-self-2 g c =
    let all = exchanged g.Q.RetransmitQueue.contents c.self.inside.packets c.exchange.new.self c.args.number _ _
    (grind (arith, c.if-not-exchange.false, c.exchange.ensures.found)) c.exchange.ensures.after in
    tracked_carrying c.self.invariant _ _ _ all.found all.entries all.kept
    c.filled_with-from.ensures.below c.filled_with-from.ensures.void
