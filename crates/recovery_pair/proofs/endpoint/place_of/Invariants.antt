use Rattle.std.proofs.Common.{◌≡◌, ◌≤◌, ◌-◌, ℕ, List, length, drop}
use Rattle.recovery_pair.specs.Filled.{next_in}
use Rattle.recovery_pair.specs.Waits.{waiting_in}
use Rattle.recovery_pair.proofs.endpoint.place_of.Given as goal

abbrev pub invariant-loop-at : goal.invariant-loop-at
invariant-loop-at l = record {
  passed : (measure : List ℕ → ℕ) → waiting_in measure l.fn.space l.fn.waiting
      ≡ waiting_in measure l.fn.space (drop l.at l.fn.waiting);
  next : next_in l.fn.space l.fn.waiting ≡ next_in l.fn.space (drop l.at l.fn.waiting);
  within : l.at ≤ length l.fn.waiting;
}

abbrev pub decreases-loop-at : goal.decreases-loop-at
decreases-loop-at l = length l.fn.waiting - l.at
