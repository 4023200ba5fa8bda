-- The items that an input gives by a grammar, one of each line, and how it ends.
use Rattle.std.specs.Prelude.{◌≡◌, ℕ, ◌+◌, ◌≤◌, ◌⊎◌, List, [], ◌∷◌, ◌++◌, length, Option, None, Some, Result, Ok, Err}
use Rattle.std.specs.Io.KnownBytes.{Consumes, IsAtEnd, Keeps}
use Rattle.recovery_events.specs.Feeding.{TakesAll}
use Rattle.recovery_replay.specs.Faults.{IsSilent}
use Rattle.recovery_replay.specs.FaultReports.{ReportsFault}
use Rattle.recovery_replay.specs.Script.{lines_of}
use Rattle.recovery_replay.specs.Writing.{AppendsFront}
use Rattle.recovery_replay.specs.declared.outcome.Outcome.{Outcome}
use Rattle.recovery_replay.specs.declared.outcome.Outcome.TheVariants.{Ended, OutOfMemory}
use Rattle.recovery_replay.specs.declared.script.Ending.TheVariants.{Whole, BadLine, ReadFailed}
use Rattle.recovery_script_syntax.specs.Forms.{IsLineOf}

-- a sink took items
pub record YieldsItems {S T : Type 0} (takes : S → T → S → Type 0) (AreGiven : List T → Type 0) (old new : S)
    : Type 0 where
  pub items : List T
  pub taken : TakesAll takes old items new
  pub given : AreGiven items

module _ {T : Type 0} (encodes : List ℕ → T → Type 0) where
  -- ---- lines

  -- the lines encode these items, one each, next to empty lines and comments
  abbrev pub EncodeItems : List (List ℕ) → List T → Type 0
  EncodeItems [] [] = Unit {0}
  EncodeItems [] (item ∷ items) = ⊥
  EncodeItems (line ∷ lines) [] = IsSilent line × EncodeItems lines []
  EncodeItems (line ∷ lines) (item ∷ items) =
      (IsSilent line × EncodeItems lines (item ∷ items)) ⊎ (encodes line item × EncodeItems lines items)

  -- neither an empty line nor a comment, and it encodes no item
  abbrev pub IsUnreadable : List ℕ → Type 0
  IsUnreadable line = (¬ IsSilent line) × (¬ IsLineOf encodes line)

  -- ---- what was read

  -- Bytes were read. Their lines up to a point encode these items; the last lines gave none. The last line of all may
  -- lack its line feed.
  pub record ReadsItems (before after : Option (List ℕ)) (items : List T) (last : List (List ℕ)) : Type 0 where
    pub taken : List ℕ
    pub consumed : Consumes before after taken
    pub lines : List (List ℕ)
    pub are : lines_of taken ≡ lines ++ last
    pub encoded : EncodeItems lines items

  -- the same, with at most one line that gave none
  abbrev pub ReadsUpTo : Option (List ℕ) → Option (List ℕ) → List T → Type 0
  ReadsUpTo before after items = (last : List (List ℕ)) × (length last ≤ 1) × ReadsItems before after items last

  -- all lines gave their items, or the last one, of this number, is unreadable, which was reported as far as it could
  -- be written
  pub record EndsUnread (before after unsaid said : Option (List ℕ)) (items : List T) (number : ℕ) : Type 0 where
    pub line : List ℕ
    pub read : ReadsItems before after items (line ∷ [])
    pub bad : IsUnreadable line
    pub counted : number ≡ length read.lines + 1
    pub text : List ℕ
    pub reports : ReportsFault (IsLineOf encodes) line number text
    pub told : AppendsFront unsaid said text

  -- How an input ended that gave these items, by what is left of it and by what was written to standard error. `None`:
  -- the sink asked for no more.
  abbrev pub GivesItems : (before after unsaid said : Option (List ℕ)) → List T → Option Outcome → Type 0
  GivesItems before after unsaid said items None = ReadsItems before after items [] × Keeps unsaid said
  GivesItems before after unsaid said items (Some (Ended Whole)) =
      ReadsItems before after items [] × IsAtEnd after × Keeps unsaid said
  GivesItems before after unsaid said items (Some (Ended (BadLine number))) =
      EndsUnread before after unsaid said items number
  GivesItems before after unsaid said items (Some (Ended ReadFailed)) =
      ReadsUpTo before after items × Keeps unsaid said
  GivesItems before after unsaid said items (Some OutOfMemory) = ReadsUpTo before after items × Keeps unsaid said
  GivesItems before after unsaid said items (Some outcome) = ⊥

  -- ---- one line

  -- a line of this number was reported as far as it could be written, and ends the input; or an allocation failed
  abbrev pub TellsLine : (unsaid said : Option (List ℕ)) → List ℕ → ℕ → Outcome → Type 0
  TellsLine unsaid said line number (Ended (BadLine named)) =
      (named ≡ number)
      × ((text : List ℕ) × ReportsFault (IsLineOf encodes) line number text × AppendsFront unsaid said text)
  TellsLine unsaid said line number OutOfMemory = Keeps unsaid said
  TellsLine unsaid said line number outcome = ⊥

  -- a line gave its item, or none if it is empty or a comment; or it ends the input, and gave none
  abbrev pub GivesLine : {B : Type 0} → (unsaid said : Option (List ℕ)) → List ℕ → ℕ → List T → Result B Outcome
      → Type 0
  GivesLine unsaid said line number items (Ok more) = EncodeItems (line ∷ []) items × Keeps unsaid said
  GivesLine unsaid said line number items (Err (Ended (BadLine named))) =
      (items ≡ []) × IsUnreadable line × TellsLine unsaid said line number (Ended (BadLine named))
  GivesLine unsaid said line number items (Err OutOfMemory) = (items ≡ []) × Keeps unsaid said
  GivesLine unsaid said line number items (Err outcome) = ⊥
