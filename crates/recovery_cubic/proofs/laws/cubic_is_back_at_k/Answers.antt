use Rattle.recovery_cubic.proofs.FollowingLaws.{reached_at_k}
use Rattle.recovery_cubic.proofs.laws.cubic_is_back_at_k.Goals as goal

pub returns : goal.returns
returns c = reached_at_k
