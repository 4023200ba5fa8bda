use Rattle.std.proofs.Common.{rules, arith}
use Rattle.recovery_cubic.proofs.CurveLaws.{step_fits}
use Rattle.recovery_cubic.proofs.cubic.Cubic.friendly_step.Goals as goal

pub overflow_add-result : goal.overflow_add-result
overflow_add-result c =
    let fits = step_fits c.if-has_reached.alpha c.from.result c.from-2.result (grind arith) (omega arith)
    (omega arith) in search rules
