use Rattle.std.proofs.Common.{arith}
use Rattle.recovery_ids.proofs.RiseLaws.{Rise-bound}
use Rattle.recovery_ids.proofs.state.pop_mark.Goals as goal

pub overflow_add-result : goal.overflow_add-result
overflow_add-result c =
    let rise = rw c.in-Some.ensures.items at c.requires in
    omega (arith, Rise-bound _ _ _ rise.1)
