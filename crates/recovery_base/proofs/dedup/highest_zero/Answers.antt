use Rattle.std.proofs.Common.{arith}
use Rattle.recovery_base.proofs.PlaceLaws.{all_ones, highest_zero_is}
use Rattle.recovery_base.proofs.dedup.highest_zero.Goals as goal

pub returns-then-zeros-eq0 : goal.returns-then-zeros-eq0
returns-then-zeros-eq0 c = all_ones _ _ (omega arith) (omega arith)
    (omega arith) c.if-zeros-eq0.true

pub returns : goal.returns
returns c = highest_zero_is _ _ (omega arith) (omega arith) (omega arith) c.if-zeros-eq0.false
