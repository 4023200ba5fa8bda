use Rattle.recovery_sender.proofs.CheckLaws.{allowed_on}
use Rattle.recovery_sender.proofs.sender.Sender.check_ranges.Goals as goal

pub loop-low-preserved : goal.loop-low-preserved
loop-low-preserved g c = allowed_on c.args.space c.args.ranges.now c.args.self.now.recovery.recovery
    c.loop-low.low-index c.in_default.field-0 c.loop-low.invariant (rw c.recovery.ensures at c.in_default.ensures)
