-- The report of a line that cannot be parsed.
use Rattle.std.specs.Prelude.{◌≡◌, ℕ, List, [], ◌∷◌, ◌++◌, take, decimal, slice_range}
use Rattle.std.specs.List.{flat_map}
use Rattle.std.specs.Str.{IsAscii}
use Rattle.std.specs.Fmt.{debug_escape}
use lib.Chars.{codes}
use Rattle.recovery_replay.specs.declared.faults.Fault.{Fault}
use Rattle.recovery_replay.specs.declared.faults.Fault.TheVariants.{TooLong, TooShort, Word}
use Rattle.recovery_replay.specs.Faults.{NamesWordOf}

-- the most bytes of a word that are shown
abbrev pub most_shown : ℕ
most_shown = 64

-- the first 64 bytes of a word between quotes, each as Rust escapes it in a string
abbrev pub quoted : List ℕ → List ℕ
quoted word = 34 ∷ (flat_map (debug_escape 34) (take most_shown word) ++ 34 ∷ [])

-- the name of the line of this number, and of a word of it
abbrev pub line_named : ℕ → List ℕ
line_named number = codes "line " ++ (decimal number ++ codes ": ")

abbrev pub word_named : ℕ → List ℕ
word_named number = codes "cannot read word " ++ (decimal number ++ codes ", ")

-- The report of a fault of the line of this number, after what was written before. Nothing is stated about a word that
-- is not ASCII.
abbrev pub TellsFault : List ℕ → ℕ → Fault → List ℕ → List ℕ → Type 0
TellsFault line number TooLong before text = text ≡ (before ++ line_named number) ++ codes "longer than 4096 bytes\n"
TellsFault line number TooShort before text =
    text ≡ (before ++ line_named number) ++ codes "words are missing behind the last one\n"
TellsFault line number (Word word start end) before text =
    IsAscii (slice_range line start end)
    → text ≡ (((before ++ line_named number) ++ word_named word) ++ quoted (slice_range line start end)) ++ codes "\n"

-- it reports a fault that a line has which the grammar does not have
abbrev pub ReportsFault : (List ℕ → Type 0) → List ℕ → ℕ → List ℕ → Type 0
ReportsFault IsLine line number text =
    (fault : Fault) × NamesWordOf IsLine line fault × TellsFault line number fault [] text
