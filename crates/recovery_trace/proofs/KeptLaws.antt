-- What is stated about the stored part of a line holds for the line: `run` rests on it.
use Rattle.std.proofs.Common.{ℕ, List, sym, subst}
use Rattle.recovery_script_syntax.specs.Lines.{EncodesEvent}
use Rattle.recovery_replay.specs.Reading.{TruncatedLine}
use Rattle.recovery_replay.proofs.ReadingLaws.{same_short}
use Rattle.recovery_trace.specs.Turns.{IsSkippedLine}

pub kept_passes : (line kept : List ℕ) → TruncatedLine line kept → IsSkippedLine kept → IsSkippedLine line
kept_passes line kept k passes event spells =
    passes event (subst (λ l. EncodesEvent l event) (sym (same_short line kept k spells.short)) spells)
