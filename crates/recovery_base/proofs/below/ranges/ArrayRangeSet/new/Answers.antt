use Rattle.recovery_base.specs.Ranges.{AreApart}
use Rattle.recovery_base.proofs.below.ranges.ArrayRangeSet.new.Goals as goal

pub invariant_of-result : goal.invariant_of-result
unfolding AreApart
invariant_of-result c = rw c.new.ensures.items tt
