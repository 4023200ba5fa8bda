-- How a program that reads lines ends: its status, and what it writes to standard error.
use Rattle.std.specs.Prelude.{◌≡◌, ℕ, ◌⊎◌, List, [], ◌++◌, decimal}
use lib.Chars.{codes}
use Rattle.recovery_replay.specs.declared.outcome.Outcome.{Outcome}
use Rattle.recovery_replay.specs.declared.outcome.Outcome.TheVariants.{Ended, WriteFailed, Closed, OutOfMemory, WrongArguments}
use Rattle.recovery_replay.specs.declared.reading.Unread.{Unread}
use Rattle.recovery_replay.specs.declared.reading.Unread.TheVariants as reasons
use Rattle.recovery_replay.specs.declared.script.Ending.TheVariants.{Whole, BadLine, ReadFailed}

-- the outcome if no line was read
abbrev pub outcome_of : Unread → Outcome
outcome_of reasons.ReadFailed = Ended ReadFailed
outcome_of reasons.OutOfMemory = OutOfMemory

-- a write failed, for any reason or because the reader closed the pipe
abbrev pub IsBroken : Outcome → Type 0
IsBroken outcome = (outcome ≡ WriteFailed) ⊎ (outcome ≡ Closed)

-- the exit status
abbrev pub status_of : Outcome → ℕ
status_of (Ended Whole) = 0
status_of (Ended (BadLine number)) = 2
status_of (Ended ReadFailed) = 1
status_of WriteFailed = 1
status_of Closed = 0
status_of OutOfMemory = 1
status_of WrongArguments = 2

-- what a program of this name and usage writes to standard error
abbrev pub outcome_text : List ℕ → List ℕ → Outcome → List ℕ
outcome_text program usage (Ended Whole) = []
outcome_text program usage (Ended (BadLine number)) = codes "line " ++ decimal number ++ codes ": cannot be read\n"
outcome_text program usage (Ended ReadFailed) = program ++ codes ": read failed\n"
outcome_text program usage WriteFailed = program ++ codes ": write failed\n"
outcome_text program usage Closed = []
outcome_text program usage OutOfMemory = program ++ codes ": out of memory\n"
outcome_text program usage WrongArguments = usage
