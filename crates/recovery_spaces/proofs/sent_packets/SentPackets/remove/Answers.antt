use Rattle.std.proofs.Common.{arith, sym, ◌∙◌}
use Rattle.recovery_spaces.proofs.CountLaws.{counted_taken}
use Rattle.recovery_spaces.proofs.TrackedLaws.{tracked_taken}
use Rattle.recovery_spaces.proofs.sent_packets.SentPackets.remove.Goals as goal

pub overflow_sub-self : goal.overflow_sub-self
overflow_sub-self g c =
    let enough = counted_taken c.self.invariant.counted _ _ (sym c.take.ensures.value ∙ c.in_ok-packet.was) in
    omega (arith, enough.1)

pub overflow_sub-self-2 : goal.overflow_sub-self-2
overflow_sub-self-2 g c =
    let enough = counted_taken c.self.invariant.counted _ _ (sym c.take.ensures.value ∙ c.in_ok-packet.was) in
    omega (arith, enough.2)

pub overflow_sub-self-3 : goal.overflow_sub-self-3
overflow_sub-self-3 g c =
    let enough = counted_taken c.self.invariant.counted _ _ (sym c.take.ensures.value ∙ c.in_ok-packet.was) in
    rw c.elicits_count.ensures enough.3

pub invariant_of-self-2 : goal.invariant_of-self-2
invariant_of-self-2 g c =
    rw (c.silent_count.ensures, c.size_count.ensures, c.elicits_count.ensures)
    (tracked_taken c.self.invariant _ _ (sym c.take.ensures.value ∙ c.in_ok-packet.was) c.take.ensures.entries
    c.in_ok-packet.ensures.bound)
