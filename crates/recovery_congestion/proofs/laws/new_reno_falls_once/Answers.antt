use Rattle.recovery_congestion.proofs.RenoRounds.{reno_falls_once}
use Rattle.recovery_congestion.proofs.laws.new_reno_falls_once.Goals as goal

pub returns : goal.returns
returns c = reno_falls_once
