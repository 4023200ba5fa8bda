-- What a program writes of answers, a line for each, until a write or an allocation fails.
use Rattle.std.specs.Prelude.{◌≡◌, ℕ, ◌⊎◌, List, ◌++◌, Option, None, Some, String, string_bytes}
use Rattle.std.specs.Io.KnownBytes.{Appends, Keeps}
use Rattle.recovery_replay.specs.Outcomes.{IsBroken}
use Rattle.recovery_replay.specs.Writing.{AppendsFront}
use Rattle.recovery_replay.specs.declared.outcome.Outcome.{Outcome}
use Rattle.recovery_replay.specs.declared.outcome.Outcome.TheVariants.{OutOfMemory}

-- this text was appended
abbrev pub ExtendsText : {Z : Type 0} → String Z → List ℕ → String Z → Type 0
ExtendsText old text new = string_bytes new ≡ string_bytes old ++ text

-- a write or an allocation failed
abbrev pub IsFailure : Outcome → Type 0
IsFailure outcome = IsBroken outcome ⊎ (outcome ≡ OutOfMemory)

-- these bytes were written, or a prefix of them, after which a failure ended it
abbrev pub WritesUpTo : (before after : Option (List ℕ)) → List ℕ → Option Outcome → Type 0
WritesUpTo before after bytes None = Appends before after bytes
WritesUpTo before after bytes (Some outcome) = IsFailure outcome × AppendsFront before after bytes

-- a line was written so; and nothing after a failure
abbrev pub TakesAnswer : (before after : Option (List ℕ)) → List ℕ → (was is : Option Outcome) → Type 0
TakesAnswer before after line None is = WritesUpTo before after line is
TakesAnswer before after line (Some outcome) is = (is ≡ Some outcome) × Keeps before after
