use Rattle.std.proofs.Common.{◌≡◌, true, drop}
use Rattle.recovery_queue.specs.Slots.{entries_in}
use Rattle.recovery_spaces.proofs.TrackedLaws.{Passes}
use Rattle.recovery_spaces.proofs.sent_packets.first_filled.Given as goal

abbrev pub invariant-loop-place : goal.invariant-loop-place
invariant-loop-place g l =
    Passes g.Q.RetransmitQueue.words l.fn.streams l.from (entries_in l.fn.packets)
    (entries_in (drop l.place l.fn.packets)) (l.are_void ≡ true)
