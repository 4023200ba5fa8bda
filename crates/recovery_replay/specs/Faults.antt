-- What is known of a line that cannot be read.
use Rattle.std.specs.Prelude.{◌≡◌, ◌≢◌, ℕ, ◌+◌, ◌-◌, ◌<◌, ◌≤◌, ◌==◌, ◌⊎◌, List, [], ◌∷◌, ◌++◌, length, take, slice_index}
use Rattle.std.specs.List.{count_by}
use Rattle.recovery_replay.specs.declared.faults.Fault.{Fault}
use Rattle.recovery_replay.specs.declared.faults.Fault.TheVariants.{TooLong, TooShort, Word}
use Rattle.recovery_script_syntax.specs.Words.{longest_line}

-- an empty line, or a comment
abbrev pub IsSilent : List ℕ → Type 0
IsSilent [] = Unit {0}
IsSilent (byte ∷ bytes) = byte ≡ 35

-- the bytes from one place of a line up to another have no space, and the line ends there or a space follows
pub record EndsWord (line : List ℕ) (start end : ℕ) : Type 0 where
  pub from : start ≤ end
  pub within : end ≤ length line
  pub whole : (place : ℕ) → start ≤ place → place < end → slice_index line place ≢ 32
  pub ended : end < length line → slice_index line end ≡ 32

module _ (IsLine : List ℕ → Type 0) where
  -- some line of the grammar begins so
  abbrev pub IsPrefix : List ℕ → Type 0
  IsPrefix front = (behind : List ℕ) × IsLine (front ++ behind)

  -- A word of a line: its number is the spaces before it plus one. It is the first, or what precedes the space before
  -- it begins a line of the grammar.
  pub record NamesWord (line : List ℕ) (number start end : ℕ) : Type 0 where
    pub short : length line ≤ longest_line
    pub word : EndsWord line start end
    pub counted : number ≡ count_by (λ byte. byte == 32) (take start line) + 1
    pub begun : (start ≡ 0) ⊎ ((slice_index line (start - 1) ≡ 32) × IsPrefix (take (start - 1) line))

  abbrev pub NamesWordOf : List ℕ → Fault → Type 0
  NamesWordOf line TooLong = longest_line < length line
  NamesWordOf line TooShort = (length line ≤ longest_line) × IsPrefix line
  NamesWordOf line (Word number start end) = NamesWord line number start end
