use Rattle.std.proofs.Common.{◌≡◌, ◌++◌, take, string_bytes}
use Rattle.recovery_script_syntax.specs.Answers.{items_text}
use Rattle.recovery_replay.proofs.answering.push_numbers.Given as goal

abbrev pub invariant-loop-number : goal.invariant-loop-number
invariant-loop-number l =
    string_bytes l.text ≡ string_bytes l.fn.text ++ items_text (take l.number-index l.numbers)
