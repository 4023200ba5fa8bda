use Rattle.std.proofs.Common.{◌≡◌, drop, filter, nat_le}
use Rattle.recovery_network.specs.Schedules.{last_value, value_at}
use Rattle.recovery_network.proofs.schedule.value_at.Given as goal

-- what is left of the changes decides the rest
abbrev pub invariant-loop-change : goal.invariant-loop-change
invariant-loop-change l =
    last_value l.value (filter (λ change. nat_le change.from l.fn.now) (drop l.change-index l.changes))
    ≡ value_at l.fn.first l.fn.changes l.fn.now
