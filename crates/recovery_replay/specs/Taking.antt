-- What processing bytes does to a script that is being read, and which events it gives.
use Rattle.std.specs.Prelude.{◌≡◌, ℕ, ◌+◌, Bool, true, false, List, [], ◌∷◌, ◌++◌, length}
use Rattle.recovery_replay.specs.declared.script.Ending.{Ending}
use Rattle.recovery_replay.specs.declared.script.Ending.TheVariants.{BadLine}
use Rattle.recovery_replay.specs.declared.script.Script.{Script}
use Rattle.recovery_script_syntax.specs.Lines.{ItemEvent, EncodesEvent}
use Rattle.recovery_replay.specs.Script.{ParsesScript, SaysThenCut}

-- the bytes so far encode these events, and the script's line is the one that they cut
pub record ParsedSoFar (taken : List ℕ) (events : List ItemEvent) (script : Script) : Type 0 where
  pub said : SaysThenCut taken events script.line.items
  pub number : script.number ≡ length events + 1

-- a line of this number is complete: it encoded an event, which was given
pub record GivesOne (line : List ℕ) (number : ℕ) (events : List ItemEvent) (new : Script) : Type 0 where
  pub event : ItemEvent
  pub spelled : EncodesEvent line event
  pub given : events ≡ event ∷ []
  pub next : new.number ≡ number + 1
  pub over : new.line.items ≡ []

-- it encoded none
pub record GivesNone (line : List ℕ) (number : ℕ) (events : List ItemEvent) (new : Script) : Type 0 where
  pub none : (event : ItemEvent) → ¬ EncodesEvent line event
  pub given : events ≡ []
  pub stays : new.number ≡ number

abbrev pub EndsLine : List ℕ → Script → List ItemEvent → Bool → Script → Type 0
EndsLine line old events true new = GivesOne line old.number events new
EndsLine line old events false new = GivesNone line old.number events new

-- all bytes are processed, or the next line is no event, whatever follows
abbrev pub ConsumesPrefix : List ℕ → List ItemEvent → Bool → Script → Type 0
ConsumesPrefix taken events true script = ParsedSoFar taken events script
ConsumesPrefix taken events false script = (rest : List ℕ) → ParsesScript (taken ++ rest) events (BadLine script.number)

-- these bytes were processed and gave these events, after whatever was processed and given before
abbrev pub ConsumesBytes : Script → List ℕ → List ItemEvent → Bool → Script → Type 0
ConsumesBytes old bytes events good new =
    (taken : List ℕ) (given : List ItemEvent) → ParsedSoFar taken given old → ConsumesPrefix (taken ++ bytes)
    (given ++ events) good new

-- the input is at its end: its last line gave these events, and it ends so
abbrev pub ParsesEndOfInput : Script → List ItemEvent → Ending → Type 0
ParsesEndOfInput script events ending =
    (taken : List ℕ) (given : List ItemEvent) → ParsedSoFar taken given script → ParsesScript taken
    (given ++ events) ending
