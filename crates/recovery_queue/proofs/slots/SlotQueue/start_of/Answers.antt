use Rattle.std.proofs.Common.{◌+◌}
use Rattle.recovery_queue.proofs.SlotWalkLaws.{divides_first}
use Rattle.recovery_queue.proofs.slots.SlotQueue.start_of.Goals as goal

pub returns-then-number-self-clause-divides : goal.returns-then-number-self-clause-divides
returns-then-number-self-clause-divides g c =
    rw (← c.self.view_is) (divides_first _ c.self.inside.first (c.self.inside.last + 1) _ c.self.invariant.rising
    c.if-number-self.true)
