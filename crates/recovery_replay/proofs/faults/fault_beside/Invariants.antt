use Rattle.std.proofs.Common.{◌≡◌, ◌-◌, ◌+◌, ◌≤◌, ◌==◌, ◌⊎◌, length, take, slice_index}
use Rattle.std.specs.List.{count_by}
use Rattle.recovery_replay.specs.Faults.{IsPrefix}
use Rattle.recovery_script_syntax.specs.Forms.{IsLineOf}
use Rattle.recovery_replay.proofs.faults.fault_beside.Given as goal

abbrev pub invariant-loop-start : goal.invariant-loop-start
invariant-loop-start g l = (l.start ≤ length l.line + 1)
    × (l.start ≤ length l.line → l.number ≡ count_by (λ byte. byte == 32) (take l.start l.line) + 1)
    × (l.number ≤ l.start + 1)
    × ((l.start ≡ 0)
    ⊎ (l.start ≤ length l.line → slice_index l.line (l.start - 1) ≡ 32)
    × IsPrefix (IsLineOf g.G.Grammar.encodes) (take (l.start - 1) l.line))

abbrev pub decreases-loop-start : goal.decreases-loop-start
decreases-loop-start g l = length l.line + 1 - l.start
