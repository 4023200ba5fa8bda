use Rattle.std.proofs.Common.{arith}
use Rattle.recovery_queue.proofs.SlotLaws.{at_itself}
use Rattle.recovery_spaces.proofs.TrackedLaws.{tracked_taken}
use Rattle.recovery_spaces.proofs.sent_packets.SentPackets.pop_first.Goals as goal

pub invariant_of-self-2 : goal.invariant_of-self-2
invariant_of-self-2 g c =
    rw (c.silent_count.ensures, c.size_count.ensures, c.elicits_count.ensures)
    (tracked_taken c.self.invariant c.in_ok-number.number c.in_ok-number.packet
    (rw c.in_ok-number.ensures.entries (grind (arith, at_itself c.in_ok-number.number)))
    (rw c.in_ok-number.ensures.entries (grind (arith, at_itself c.in_ok-number.number))) c.in_ok-number.ensures.bound)
