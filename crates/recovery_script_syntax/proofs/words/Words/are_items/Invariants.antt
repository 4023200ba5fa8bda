use Rattle.std.proofs.Common.{◌≡◌, length, is_some}
use Rattle.recovery_script_syntax.specs.Reading.{words_left, items_read}
use Rattle.recovery_script_syntax.proofs.words.Words.are_items.Given as goal

-- the remaining words are items if all were
abbrev pub invariant-loop-words : goal.invariant-loop-words
invariant-loop-words l = is_some (items_read (words_left l.self)) ≡ is_some (items_read (words_left l.words))

abbrev pub decreases-loop-words : goal.decreases-loop-words
decreases-loop-words l = length (words_left l.words)
