use Rattle.std.proofs.Common.{◌≡◌, ◌≤◌, ◌<◌, length}
use Rattle.std.specs.Str.{IsAscii}
use Rattle.recovery_replay.proofs.fault_reports.shown_len.Given as goal

abbrev pub invariant-loop-end : goal.invariant-loop-end
invariant-loop-end l = (l.end ≤ 64) × (64 < length l.word) × (IsAscii l.word → l.end ≡ 64)

abbrev pub decreases-loop-end : goal.decreases-loop-end
decreases-loop-end l = l.end
