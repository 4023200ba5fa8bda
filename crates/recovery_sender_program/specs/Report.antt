-- What is written to standard error when the program ends.
use Rattle.std.specs.Prelude.{ℕ, List, [], ◌++◌}
use lib.Chars.{codes}
use Rattle.recovery_replay.specs.declared.outcome.Outcome.{Outcome}
use Rattle.recovery_replay.specs.declared.outcome.Outcome.TheVariants.{Ended}
use Rattle.recovery_replay.specs.declared.script.Ending.TheVariants.{BadLine}
use Rattle.recovery_replay.specs.Outcomes.{outcome_text}

abbrev pub usage : List ℕ
usage = codes "usage: recovery-sender client|server|established "
    ++ codes "[SEED [cubic|WINDOW [PACKETS NUMERATOR DENOMINATOR PERIODS]]]\n"

-- a line that cannot be read was reported already
abbrev pub error_text : Outcome → List ℕ
error_text (Ended (BadLine number)) = []
error_text outcome = outcome_text (codes "sender") usage outcome
