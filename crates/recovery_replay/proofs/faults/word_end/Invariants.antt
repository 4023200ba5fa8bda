use Rattle.std.proofs.Common.{ℕ, length, ◌-◌, ◌≤◌, ◌<◌, ◌≢◌, slice_index}
use Rattle.recovery_replay.proofs.faults.word_end.Given as goal

abbrev pub invariant-loop-end : goal.invariant-loop-end
invariant-loop-end l = (l.start ≤ l.end) × (l.end ≤ length l.line)
    × ((place : ℕ) → l.start ≤ place → place < l.end → slice_index l.line place ≢ 32)

abbrev pub decreases-loop-end : goal.decreases-loop-end
decreases-loop-end l = length l.line - l.end
