-- The outcome of a line of a trace.
use Rattle.std.specs.Prelude.{◌≡◌, ℕ, max, ◌⊎◌, Bool, true, false, List, [], ◌∷◌, ◌++◌, Option}
use Rattle.std.specs.Io.KnownBytes.{Appends, Keeps}
use Rattle.recovery_congestion.specs.Controllers.{ControllerSemantics}
use Rattle.quic_recovery.specs.declared.driver.Recovery.{Recovery}
use Rattle.recovery_history.specs.RecoveryState.{RecoveryState}
use Rattle.quic_recovery.specs.Live.{LiveStep}
use Rattle.quic_recovery.specs.State.{state_of}
use Rattle.recovery_script_syntax.specs.Answers.{ScriptReply, answer_line}
use Rattle.recovery_script_syntax.specs.Lines.{ItemEvent, EncodesEvent}
use Rattle.recovery_replay.specs.Writing.{AppendsFront}
use Rattle.recovery_replay.specs.declared.outcome.Outcome.TheVariants.{WriteFailed, Closed, OutOfMemory}
use Rattle.recovery_trace.specs.declared.qlog.Note.{Note}
use Rattle.recovery_trace.specs.declared.requests.Shown.{Shown}
use Rattle.recovery_trace.specs.declared.requests.Shown.TheVariants as shown
use Rattle.recovery_trace.specs.declared.turn.Turn.{Turn}
use Rattle.recovery_trace.specs.declared.turn.Turn.TheVariants.{Done, Bad, Over}
use Rattle.recovery_trace.specs.EventTimes.{moment_of}
use Rattle.recovery_trace.specs.Qlog.{metrics_text, note_of, note_text}
use Rattle.recovery_trace.specs.States.{state_text}
use Rattle.recovery_replay.specs.FaultReports.{ReportsFault}
use Rattle.recovery_replay.specs.Faults.{IsSilent}
use Rattle.recovery_script_syntax.specs.Forms.{IsLineOf}

-- ---- lines

-- it is no event
abbrev pub IsSkippedLine : List ℕ → Type 0
IsSkippedLine line = (event : ItemEvent) → ¬ EncodesEvent line event

-- it is an event, or an empty line or comment
abbrev pub IsFine : List ℕ → Type 0
IsFine line = ((event : ItemEvent) × EncodesEvent line event) ⊎ (IsSkippedLine line × IsSilent line)

-- it cannot be parsed
abbrev pub IsUnreadableLine : List ℕ → Type 0
IsUnreadableLine line = IsSkippedLine line × ¬ IsSilent line

-- ---- the output of an event

abbrev pub ItemParts : Type 0 → Type 0
ItemParts K = RecoveryState K (List ℕ) (Unit {0})

-- the line of its reply, and, if asked for, that of the time and of the state after it; or its qlog records
abbrev pub turn_text : {K : Type 0} → ControllerSemantics K → Shown → ℕ → Note → ScriptReply → ItemParts K → List ℕ
turn_text words shown.Answers time note reply left = answer_line reply
turn_text words shown.States time note reply left = answer_line reply ++ state_text words time left.paths.current
turn_text words shown.Qlog time note reply left =
    note_text time note reply ++ metrics_text words time left.paths.current

-- ---- one line

module _ {F R C K : Type 0} {f : _} {c : _} {q : _} {m : _} {r : _} where
  -- its event is applied, the time advances to that of the event if that is later, and this is the output
  pub record AppliesLineEvent (shows : Shown) (line : List ℕ)
      (old new : Recovery F (List ℕ) R C K (Unit {0}) (Unit {0}) (List ℕ) f c q m r) (earlier later : ℕ)
      (text : List ℕ) : Type 0 where
    pub event : ItemEvent
    pub reply : ScriptReply
    pub spelled : EncodesEvent line event
    pub goes : LiveStep old event reply new
    pub timed : later ≡ max earlier (moment_of event)
    pub written : text ≡ turn_text c.words shows later (note_of event) reply (state_of new)

  -- so it is, or the line is no event, and nothing happens
  abbrev pub TurnOutcome : Shown → List ℕ → Recovery F (List ℕ) R C K (Unit {0}) (Unit {0}) (List ℕ) f c q m r
      → Recovery F (List ℕ) R C K (Unit {0}) (Unit {0}) (List ℕ) f c q m r → ℕ → ℕ → List ℕ → Bool
      → Type 0
  TurnOutcome shows line old new earlier later text true = AppliesLineEvent shows line old new earlier later text
  TurnOutcome shows line old new earlier later text false =
      IsSkippedLine line × (state_of new ≡ state_of old) × (later ≡ earlier)

  -- The outcome of a line of this number, by the outputs before and after. Either its event is applied and its output
  -- written, or it is an empty line or comment and nothing happens. Or it cannot be parsed, and that is reported as far
  -- as it can be written. Or its event is applied, and a write of its output failed. Or an allocation failed, and
  -- nothing was written.
  abbrev pub LineOutcome : Shown → List ℕ → ℕ → Recovery F (List ℕ) R C K (Unit {0}) (Unit {0}) (List ℕ) f c q m r
      → Recovery F (List ℕ) R C K (Unit {0}) (Unit {0}) (List ℕ) f c q m r → ℕ → ℕ → Option (List ℕ)
      → Option (List ℕ) → Option (List ℕ) → Option (List ℕ) → Turn → Type 0
  LineOutcome shows line number old new earlier later before after unsaid said Done =
      (((text : List ℕ) × AppliesLineEvent shows line old new earlier later text × Appends before after text)
      ⊎ (IsSkippedLine line × IsSilent line × (state_of new ≡ state_of old) × (later ≡ earlier) × Keeps before after))
      × Keeps unsaid said
  LineOutcome shows line number old new earlier later before after unsaid said Bad =
      IsUnreadableLine line × (state_of new ≡ state_of old) × (later ≡ earlier) × Keeps before after
      × ((text : List ℕ) × ReportsFault (IsLineOf EncodesEvent) line number text × AppendsFront unsaid said text)
  LineOutcome shows line number old new earlier later before after unsaid said (Over WriteFailed) =
      ((text : List ℕ) × AppliesLineEvent shows line old new earlier later text × AppendsFront before after text)
      × Keeps unsaid said
  LineOutcome shows line number old new earlier later before after unsaid said (Over Closed) =
      ((text : List ℕ) × AppliesLineEvent shows line old new earlier later text × AppendsFront before after text)
      × Keeps unsaid said
  LineOutcome shows line number old new earlier later before after unsaid said (Over OutOfMemory) =
      Keeps before after × Keeps unsaid said
  LineOutcome shows line number old new earlier later before after unsaid said (Over outcome) = ⊥
