use Rattle.std.proofs.Common.{◌+◌, ◌-◌, ◌/◌, rules, arith}
use Rattle.recovery_cubic.proofs.CurveLaws.{cube_fits, root_between}
use Rattle.recovery_cubic.proofs.curve.cube_root.Goals as goal

pub overflow_mul-middle-in-loop-above : goal.overflow_mul-middle-in-loop-above
overflow_mul-middle-in-loop-above c =
    let middle = c.loop-above.root + (c.loop-above.above - c.loop-above.root) / 2 in
    let fits = cube_fits middle (omega arith) in search rules

pub returns : goal.returns
returns c =
    root_between c.args.n c.loop-above.root c.loop-above.above c.loop-above.invariant.0 c.loop-above.invariant.1
    (omega arith)
