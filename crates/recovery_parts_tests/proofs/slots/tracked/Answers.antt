use Rattle.recovery_parts_tests.proofs.Sending.{sent_below, none_below}
use Rattle.recovery_parts_tests.proofs.slots.tracked.Goals as goal

pub loop-number-init : goal.loop-number-init
loop-number-init g c = none_below _ c.new-packets.ensures

pub loop-number-preserved : goal.loop-number-preserved
loop-number-preserved g c = sent_below _ _ _ _ c.loop-number.invariant c.in-Ok.ensures.ok
