use Rattle.std.proofs.Common.{◌≡◌, ℕ, ◌<◌, ◌≤◌, None}
use Rattle.recovery_ids.specs.Window.{held_at}
use Rattle.recovery_ids.proofs.window.Window.least_from.Given as goal

abbrev pub invariant-loop-number : goal.invariant-loop-number
invariant-loop-number l = (n : ℕ) → l.low ≤ n → n < l.number → held_at l.self n ≡ None
