use Rattle.std.proofs.Common.{arith}
use Rattle.recovery_queue.proofs.SlotEntryLaws.{rises_within}
use Rattle.recovery_queue.proofs.slots.cut.Goals as goal

pub returns-else-number-last-clause-rising : goal.returns-else-number-last-clause-rising
returns-else-number-last-clause-rising g c =
    λ first. rises_within _ first first _ c.args.number (omega arith) (omega arith)
