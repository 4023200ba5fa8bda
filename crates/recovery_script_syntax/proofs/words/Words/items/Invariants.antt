use Rattle.std.proofs.Common.{◌≡◌, length}
use Rattle.recovery_script_syntax.specs.Reading.{words_left, items_read}
use Rattle.recovery_script_syntax.proofs.ItemLaws.{behind}
use Rattle.recovery_script_syntax.proofs.words.Words.items.Given as goal

-- all items are those that were read and those that remain
abbrev pub invariant-loop-self : goal.invariant-loop-self
invariant-loop-self l = items_read (words_left l.fn.self) ≡ behind l.items.items (items_read (words_left l.self))

abbrev pub decreases-loop-self : goal.decreases-loop-self
decreases-loop-self l = length (words_left l.self)
