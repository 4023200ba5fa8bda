use Rattle.std.proofs.Common.{[]}
use Rattle.recovery_queue.specs.Slots.{entries_in}
use Rattle.recovery_spaces.proofs.PacketLaws.{all_below, are_below, AllBelow-push}
use Rattle.recovery_parts_tests.proofs.slots.queued.Goals as goal

pub loop-number-init : goal.loop-number-init
loop-number-init g c = rw c.new-slots.ensures (are_below [] 0 tt)

pub loop-number-preserved : goal.loop-number-preserved
loop-number-preserved g c =
    let old = entries_in c.loop-number.slots in
    rw c.in-Ok.ensures.ok (are_below _ _ (AllBelow-push old _ _ (all_below old _ c.loop-number.invariant)))
