-- What is put into a sink: the event that a whole line encodes. `put_event` rests on it.
use Rattle.std.proofs.Common.{arith, ◌≡◌, ◌≤◌, ℕ, Bool, true, false, List, [], ◌∷◌, length, Option, Some, None, Result, Ok, Err, IfOk, OnErr, bytes_eq, refl, ap}
use lib.Chars.{codes}
use Rattle.std.proofs.lemmas.Bool.Decides.{nat_tests}
use Rattle.recovery_script_syntax.specs.declared.forms.Line.{Line}
use Rattle.recovery_script_syntax.specs.Words.{words_of}
use Rattle.recovery_script_syntax.specs.Lines.{ItemEvent, HoldsList, forms_without_items, send}
use Rattle.recovery_script_syntax.specs.Reading.{ParsesTo, PushesToSink, PutsRead, PutsSpelled, all_of, first_word, line_at, line_behind, line_of, reading, whole}
use Rattle.recovery_script_syntax.proofs.FormLaws.{send_says}
use Rattle.recovery_script_syntax.proofs.LineLaws.{line_found, line_only, items_refused, refused_whole}

-- ---- what is read

whole_read : (line : Option Line) (left : List (List ℕ)) (read : Option (Line × List (List ℕ)))
    → ParsesTo (λ x. x) line left read → whole read ≡ all_of line left
whole_read None left read is = ap whole is
whole_read (Some line) left read is = ap whole is

-- ---- what a line encodes

-- what is read from all words of a line it encodes; if nothing is read, or nothing that an event means, it encodes
-- none; an allocation fails only for lines that have a list
pub puts_said : {S E : Type 0} (takes : S → ItemEvent → S → Type 0) (line : List ℕ) (said : Option Line) (before : S)
    (result : Result (Option Bool) E)
    (after : S) → line_of line ≡ said → length line ≤ 4096 → PushesToSink takes said before result after
    → IfOk result (λ more. PutsSpelled takes line before more after) × OnErr result (HoldsList line)
    × OnErr result (after ≡ before)
puts_said takes line (Some said) before (Ok (Some more)) after is short put =
    ((put.0, line_found line said put.0 is short put.1, put.2), tt, tt)
puts_said takes line (Some said) before (Ok None) after is short put = (
  (
    λ event spells. let says = line_only line event spells in
        let same : said ≡ says.0 = grind (arith, says.1, is) in put.0 event (rw same says.2),
    put.1,
  ),
  tt,
  tt,
)
puts_said takes line (Some said) before (Err refused) after is short put =
    (tt, refused_whole line said is short put.0, put.1)
puts_said takes line None before (Ok None) after is short put =
    ((λ event spells. grind (arith, (line_only line event spells).1, is), put.1), tt, tt)
puts_said takes line None before result after is short put = absurd (grind (arith, put))

-- a line, and its first word
module _ (line : List ℕ) (words rest : List (List ℕ)) (name : List ℕ) (is : words ≡ words_of line)
    (first : first_word words ≡ Some (name, rest)) where
  -- one without items
  pub other_said : false ≡ bytes_eq name (codes "send")
      → line_of line ≡ whole (line_behind forms_without_items name rest)
  unfolding line_of line_at line_behind
  other_said other = rw (← is, first, ← other) refl

  -- one with items
  pub send_line : true ≡ bytes_eq name (codes "send") → line_at (words_of line) ≡ reading send rest
  unfolding line_at line_behind
  send_line same = rw (← is, first, ← same) refl

-- ---- a line with items

-- what was read of it was put, if no word is left
pub send_read : {S E : Type 0} (takes : S → ItemEvent → S → Type 0) (words : List (List ℕ)) (line : Option Line)
    (left : List (List ℕ)) (before : S) (result : Result (Option Bool) E)
    (after : S) → ParsesTo (λ x. x) line left (reading send words) → PushesToSink takes
    (all_of line left) before result after
    → PutsRead takes (reading send words) before result after
send_read takes words line left before (Ok more) after reads put = rw (whole_read line left _ reads) put
send_read takes words (Some line) [] before (Err refused) after reads put = absurd (send_says words line reads put.0)
send_read takes words (Some line) (word ∷ left) before (Err refused) after reads put =
    absurd (grind (arith, nat_tests, put))
send_read takes words None left before (Err refused) after reads put = absurd put

-- and what was put is what the line encodes
pub send_puts : {S E : Type 0} (takes : S → ItemEvent → S → Type 0) (line : List ℕ)
    (read : Option (Line × List (List ℕ))) (before : S) (result : Result (Option Bool) E)
    (after : S) → line_at (words_of line) ≡ read → length line ≤ 4096 → PutsRead takes read before result after
    → IfOk result (λ more. PutsSpelled takes line before more after) × OnErr result (HoldsList line)
    × OnErr result (after ≡ before)
unfolding line_of
send_puts {E = E} takes line read before (Ok more) after is short put =
    puts_said {E = E} takes line (whole read) before (Ok more) after (ap whole is) short put
send_puts takes line read before (Err refused) after is short put =
    (tt, items_refused line read is short put.0, put.1)
