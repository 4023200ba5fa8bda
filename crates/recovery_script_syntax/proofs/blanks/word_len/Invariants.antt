use Rattle.std.proofs.Common.{◌≤◌, ◌-◌, length, slice_index, ◌==◌}
use Rattle.core.specs.Slice.Scan.{HoldsNowhere}
use Rattle.recovery_script_syntax.proofs.blanks.word_len.Given as goal

abbrev pub invariant-loop-end : goal.invariant-loop-end
invariant-loop-end l = (l.end ≤ length l.bytes) × HoldsNowhere (λ k. slice_index l.bytes k == 32) 0 l.end

abbrev pub decreases-loop-end : goal.decreases-loop-end
decreases-loop-end l = length l.bytes - l.end
