use Rattle.std.proofs.Common.{◌≡◌, ◌++◌, take, string_bytes}
use lib.Chars.{codes}
use Rattle.recovery_script_syntax.specs.Answers.{items_text}
use Rattle.recovery_script_syntax.proofs.answers.write_queue.Given as goal

abbrev pub invariant-loop-item : goal.invariant-loop-item
invariant-loop-item l =
    string_bytes l.text ≡ string_bytes l.fn.text ++ codes "queue" ++ items_text (take l.item-index l.queue)
