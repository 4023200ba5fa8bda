use Rattle.std.proofs.Common.{◌≡◌, ◌-◌, ◌++◌, ℕ, List}
use Rattle.std.specs.List.{range_with_len}
use Rattle.recovery_ids.specs.CidState.{numbers_in}
use Rattle.recovery_ids.specs.LocalIds.{AreIncreasingWithin}
use Rattle.recovery_ids.proofs.state.take_back.Given as goal

abbrev pub invariant-loop-number : goal.invariant-loop-number
invariant-loop-number l = (before : List ℕ) → AreIncreasingWithin 0 l.first before
    → numbers_in l.fn.numbers ≡ before ++ range_with_len l.first (l.fn.end - l.first)
    → numbers_in l.numbers ≡ before ++ range_with_len l.number (l.fn.end - l.number)
