use Rattle.recovery_base.proofs.RangeLaws.{apart_dropped}
use Rattle.recovery_base.proofs.below.ranges.ArrayRangeSet.pop_min.Goals as goal

pub invariant_of-self : goal.invariant_of-self
invariant_of-self c = rw c.remove.ensures.items (apart_dropped c.self.inside.ranges.items c.self.invariant)
