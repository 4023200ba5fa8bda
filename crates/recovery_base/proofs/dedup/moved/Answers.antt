use Rattle.std.proofs.Common.{arith}
use Rattle.recovery_base.proofs.PlaceLaws.{moved_is}
use Rattle.recovery_base.proofs.dedup.moved.Goals as goal

pub returns-clause-stays : goal.returns-clause-stays
returns-clause-stays c = (moved_is _ _ _ (omega arith) (omega arith)).0

pub returns-clause-carries : goal.returns-clause-carries
returns-clause-carries c = (moved_is _ _ _ (omega arith) (omega arith)).1
