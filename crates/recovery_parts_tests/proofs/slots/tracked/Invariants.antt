use Rattle.recovery_parts_tests.proofs.Sending.{IsBelow}
use Rattle.recovery_parts_tests.proofs.slots.tracked.Given as goal

abbrev pub invariant-loop-number : goal.invariant-loop-number
invariant-loop-number g l = IsBelow l.packets l.number-counter
