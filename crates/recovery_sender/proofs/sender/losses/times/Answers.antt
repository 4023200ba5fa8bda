use Rattle.std.proofs.Common.{arith, ◌≤◌}
use Rattle.std.proofs.Math.Nat.{mul-le-mul}
use Rattle.recovery_sender.proofs.sender.losses.times.Goals as goal

pub overflow_mul-result : goal.overflow_mul-result
overflow_mul-result c =
    let few : c.args.count ≤ 4294967295 = omega (arith, c.ranges.count.fits) in
    let short : c.args.once ≤ 36893488147419103232000000000 = omega (arith, c.requires.small) in
    rw c.from.ensures (omega (arith, mul-le-mul few short))
