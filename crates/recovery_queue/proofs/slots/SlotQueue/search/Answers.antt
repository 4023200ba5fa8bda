use Rattle.std.proofs.Common.{arith}
use Rattle.recovery_queue.proofs.slots.SlotQueue.search.Goals as goal

pub returns-clause-one : goal.returns-clause-one
returns-clause-one g c = λ none_out.
    rw c.count.ensures (c.halve-place.ensures.looks 1 (omega (arith, c.range_of-low.ensures.one none_out)))
