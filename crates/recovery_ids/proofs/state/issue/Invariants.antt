use Rattle.std.proofs.Common.{◌≡◌, ◌-◌, ◌++◌}
use Rattle.std.specs.List.{range_with_len}
use Rattle.recovery_ids.specs.CidState.{numbers_in}
use Rattle.recovery_ids.proofs.state.issue.Given as goal

abbrev pub invariant-loop-number : goal.invariant-loop-number
invariant-loop-number l =
    numbers_in l.numbers ≡ numbers_in l.fn.numbers ++ range_with_len l.first (l.number - l.first)
