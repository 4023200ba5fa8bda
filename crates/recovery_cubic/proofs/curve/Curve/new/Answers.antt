use Rattle.std.proofs.Common.{◌-◌, arith}
use Rattle.recovery_cubic.proofs.CurveLaws.{greatest_k}
use Rattle.recovery_cubic.proofs.curve.Curve.new.Goals as goal

pub returns-clause-greatest : goal.returns-clause-greatest
returns-clause-greatest c =
    let greatest = greatest_k c.args.datagram (c.args.w_max - c.args.window) c.requires in grind (arith, greatest)
