use Rattle.std.proofs.Common.{◌≡◌, length}
use Rattle.recovery_script_syntax.specs.Reading.{words_left}
use Rattle.recovery_sender_program.specs.CallReading.{ranges_read}
use Rattle.recovery_sender_program.proofs.RangeLaws.{behind}
use Rattle.recovery_sender_program.proofs.lines.read_ranges.Given as goal

-- all ranges are those that were read and those that remain
abbrev pub invariant-loop-word : goal.invariant-loop-word
invariant-loop-word l =
    ranges_read (words_left l.fn.words) ≡ behind l.ranges.items (ranges_read (words_left l.words))

abbrev pub decreases-loop-word : goal.decreases-loop-word
decreases-loop-word l = length (words_left l.words)
