-- What is written to standard error when a trace ends.
use Rattle.std.specs.Prelude.{ℕ, List, []}
use lib.Chars.{codes}
use Rattle.recovery_replay.specs.declared.outcome.Outcome.{Outcome}
use Rattle.recovery_replay.specs.declared.outcome.Outcome.TheVariants.{Ended}
use Rattle.recovery_replay.specs.declared.script.Ending.TheVariants.{BadLine}
use Rattle.recovery_replay.specs.Outcomes.{outcome_text}

abbrev pub usage_text : List ℕ
usage_text = codes "usage: recovery-trace [--state|--qlog] [--strict] [--controller NAME] [SEED [WINDOW]]\n"

-- each line that cannot be parsed was reported already
abbrev pub error_text : Outcome → List ℕ
error_text (Ended (BadLine number)) = []
error_text outcome = outcome_text (codes "recovery-trace") usage_text outcome
