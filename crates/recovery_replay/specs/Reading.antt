-- What reading one line consumes of an input.
use Rattle.std.specs.Prelude.{◌≡◌, ℕ, ◌<◌, ◌⊎◌, List, [], ◌∷◌, ◌++◌, length, take, Option, None, Some, ◌+◌}
use Rattle.std.specs.Io.KnownBytes.{Consumes, IsAtEnd}
use Rattle.recovery_replay.specs.Script.{NoFeed}
use Rattle.recovery_replay.specs.declared.reading.Next.{Next}
use Rattle.recovery_replay.specs.declared.reading.Next.TheVariants.{Line, Last}
use Rattle.recovery_replay.specs.declared.reading.Unread.{Unread}
use Rattle.recovery_replay.specs.declared.reading.Unread.TheVariants.{OutOfMemory, ReadFailed}
use Rattle.recovery_script_syntax.specs.Words.{longest_line}

-- one byte was read, or the input is at its end
abbrev pub IsByte : Option (List ℕ) → Option (List ℕ) → Option ℕ → Type 0
IsByte before after None = Consumes before after [] × IsAtEnd after
IsByte before after (Some byte) = Consumes before after (byte ∷ [])

-- the stored part of a line: all of it, except that of a long one only enough to show that it is too long
pub record TruncatedLine (line kept : List ℕ) : Type 0 where
  pub no_feed : NoFeed line
  pub is : kept ≡ take (longest_line + 1) line

-- a line and its line feed were read, or the last line without one, or nothing was left
abbrev pub IsLine : Option (List ℕ) → Option (List ℕ) → List ℕ → Option Next → Type 0
IsLine before after kept (Some Line) = (line : List ℕ) × TruncatedLine line kept × Consumes before after
    (line ++ 10 ∷ [])
IsLine before after kept (Some Last) =
    (line : List ℕ) × TruncatedLine line kept × (0 < length line) × Consumes before after line × IsAtEnd after
IsLine before after kept None = Consumes before after [] × IsAtEnd after

-- a read or an allocation failed, after bytes of a line that continues
abbrev pub BreaksOff : Option (List ℕ) → Option (List ℕ) → Unread → Type 0
BreaksOff before after unread =
    (cut : List ℕ) × NoFeed cut × Consumes before after cut × ((unread ≡ ReadFailed) ⊎ (unread ≡ OutOfMemory))
