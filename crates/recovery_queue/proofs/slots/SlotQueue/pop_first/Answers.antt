use Rattle.std.proofs.Common.{arith}
use Rattle.recovery_queue.specs.Slots.{entries_in}
use Rattle.recovery_queue.proofs.SlotEntryLaws.{first_filed}
use Rattle.recovery_queue.proofs.slots.SlotQueue.pop_first.Goals as goal

pub returns-in_err-number-clause-entries : goal.returns-in_err-number-clause-entries
returns-in_err-number-clause-entries g c =
    rw c.from_residual.ensures (first_filed (entries_in c.args.self.now) _ c.in_err-number.ensures.first)

pub returns-in_err-item-clause-entries : goal.returns-in_err-item-clause-entries
returns-in_err-item-clause-entries g c =
    grind (arith, first_filed (entries_in c.args.self.now) _ c.in_ok-number.ensures.first)

pub returns-clause-entries : goal.returns-clause-entries
returns-clause-entries g c =
    grind (arith, first_filed (entries_in c.args.self.now) _ c.in_ok-number.ensures.first)
