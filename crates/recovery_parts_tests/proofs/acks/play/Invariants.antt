use Rattle.std.proofs.Common.{◌≤◌}
use Rattle.std.specs.Prelude.{unwrap_or}
use Rattle.recovery_parts_tests.proofs.acks.play.Given as goal

-- no ack-eliciting packet has a larger number than the last row
abbrev pub invariant-loop-call : goal.invariant-loop-call
invariant-loop-call g l = unwrap_or l.acks.counts.greatest 0 ≤ l.last
