use Rattle.std.proofs.Common.{rules}
use Rattle.recovery_base.proofs.RangeLaws.{is_empty_told}
use Rattle.recovery_base.proofs.below.ranges.ArrayRangeSet.is_empty.Goals as goal

pub returns : goal.returns
returns c = record {
  numbers = rw (← c.self.view_is) (is_empty_told c.self.inside.ranges.items 0 _ c.self.invariant
      (search rules) c.is_empty.result c.is_empty.ensures);
}
