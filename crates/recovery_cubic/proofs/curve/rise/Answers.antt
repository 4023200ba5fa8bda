use Rattle.std.proofs.Common.{◌*◌, arith}
use Rattle.recovery_cubic.specs.Curve.{cube}
use Rattle.recovery_cubic.proofs.CurveLaws.{stops}
use Rattle.recovery_cubic.proofs.curve.rise.Goals as goal

pub returns : goal.returns
returns c = let is = stops (cube c.args.micros) (2 * c.args.datagram) in grind (arith, is)
