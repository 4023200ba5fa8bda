use Rattle.recovery_pair.proofs.FallLaws.{reno_falls}
use Rattle.recovery_pair.proofs.laws.new_reno_recovers.Goals as goal

pub returns : goal.returns
returns c = reno_falls
