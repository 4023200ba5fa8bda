use Rattle.recovery_cubic.proofs.CubicRounds.{cubic_falls_once}
use Rattle.recovery_cubic.proofs.laws.cubic_falls_once.Goals as goal

pub returns : goal.returns
returns c = cubic_falls_once
