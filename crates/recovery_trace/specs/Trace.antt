-- The output of a trace for its input.
use Rattle.std.specs.Prelude.{◌≡◌, ℕ, ◌+◌, ◌≤◌, max, ◌⊎◌, Bool, true, false, List, [], ◌∷◌, ◌++◌, length, reverse, take, All, Option}
use Rattle.std.specs.List.{flat_map}
use Rattle.std.specs.declared.net.socket_addr.SocketAddr.{SocketAddr}
use Rattle.std.specs.Io.KnownBytes.{Appends, Consumes, IsAtEnd}
use Rattle.rand_core.specs.Stream.{Stream}
use Rattle.recovery_congestion.specs.Controllers.{ControllerSemantics}
use Rattle.recovery_congestion.specs.NewReno.{reno_made, reno_words}
use Rattle.recovery_congestion.specs.RenoSettings.{default_reno}
use Rattle.quic_recovery.specs.declared.driver.Recovery.{Recovery}
use Rattle.recovery_history.specs.declared.config.RecoveryConfig.{RecoveryConfig}
use Rattle.recovery_history.specs.History.{AtEach, Beginning, History, begins, queue_model}
use Rattle.recovery_history.specs.Reachability.{ReachedBy, StepGuarantees}
use Rattle.quic_recovery.specs.State.{state_of}
use Rattle.recovery_cubic.specs.ConfigView.{default_window}
use Rattle.recovery_cubic.specs.Cubic.{cubic_made, cubic_words}
use Rattle.recovery_script_syntax.specs.Lines.{IsDocumentationAddress, EncodesEvent}
use Rattle.recovery_replay.specs.FixedWindow.{fixed_made, fixed_words}
use Rattle.recovery_replay.specs.Replay.{begun_over, first_port}
use Rattle.recovery_replay.specs.Script.{NoFeed, ended, lines_of}
use Rattle.recovery_replay.specs.Writing.{AppendsFront}
use Rattle.recovery_replay.specs.declared.outcome.Outcome.{Outcome}
use Rattle.recovery_replay.specs.declared.outcome.Outcome.TheVariants.{Ended, WriteFailed, Closed, OutOfMemory, WrongArguments}
use Rattle.recovery_replay.specs.declared.script.Ending.TheVariants.{Whole, BadLine, ReadFailed}
use Rattle.recovery_trace.specs.declared.requests.Choice.{Choice}
use Rattle.recovery_trace.specs.declared.requests.Shown.{Shown}
use Rattle.recovery_trace.specs.declared.requests.Shown.TheVariants.{Qlog}
use Rattle.recovery_trace.specs.declared.requests.Controllers.{Controllers}
use Rattle.recovery_trace.specs.declared.requests.Controllers.TheVariants.{NewReno, Cubic, Fixed}
use Rattle.recovery_trace.specs.EventTimes.{moment_of}
use Rattle.recovery_replay.specs.Outcomes.{IsBroken}
use Rattle.recovery_replay.specs.Playing.{Streams}
use Rattle.recovery_trace.specs.Qlog.{header_text, note_of}
use Rattle.recovery_replay.specs.FaultReports.{ReportsFault}
use Rattle.recovery_script_syntax.specs.Forms.{IsLineOf}
use Rattle.recovery_trace.specs.Turns.{IsUnreadableLine, IsFine, ItemParts, IsSkippedLine, turn_text}

abbrev pub ItemHistory : Type 0
ItemHistory = History (List ℕ) (Unit {0}) (Unit {0}) (List ℕ)

abbrev pub ItemBeginning : Type 0 → Type 0 → Type 0
ItemBeginning F K = Beginning F K (List ℕ) (Unit {0}) (Unit {0}) (List ℕ)

-- ---- the lines of a trace, the newest first

-- they encode the events of a past, in their order; any other line is no event
abbrev pub SpelledBy : List (List ℕ) → ItemHistory → Type 0
SpelledBy [] [] = Unit {0}
SpelledBy [] (happened ∷ past) = ⊥
SpelledBy (line ∷ lines) [] = IsSkippedLine line × SpelledBy lines []
SpelledBy (line ∷ lines) (happened ∷ past) =
    (EncodesEvent line happened.0 × SpelledBy lines past) ⊎ (IsSkippedLine line × SpelledBy lines (happened ∷ past))

-- their reports: for each line that cannot be parsed one line, or a prefix of one that could not be written
abbrev pub FaultReportsOf : List (List ℕ) → List ℕ → Type 0
FaultReportsOf [] told = told ≡ []
FaultReportsOf (line ∷ lines) told =
    (IsFine line × FaultReportsOf lines told)
    ⊎ (IsUnreadableLine line × ((front : List ℕ) × (text : List ℕ) × (n : ℕ) × FaultReportsOf lines front
    × ReportsFault (IsLineOf EncodesEvent) line (length lines + 1) text × (told ≡ front ++ take n text)))

-- the latest time of an event of a past, or 0
abbrev pub time_of : ItemHistory → ℕ
time_of [] = 0
time_of (happened ∷ past) = max (time_of past) (moment_of happened.0)

module _ {F K : Type 0} (beginning : ItemBeginning F K) (shows : Shown) where
  -- the output of a past: for each event the line of its reply, and, if asked for, that of the time and state after it,
  -- or its qlog records
  abbrev pub OutputOf : ItemHistory → List ℕ → Type 0
  OutputOf [] text = text ≡ []
  OutputOf (happened ∷ past) text =
      (front : List ℕ) × (left : ItemParts K) × OutputOf past front × ReachedBy beginning (happened ∷ past) left
      × (text ≡ front
      ++ turn_text beginning.words shows (time_of (happened ∷ past)) (note_of happened.0) happened.1 left)

  -- What these lines encode happened, and all promises hold at each event; this is the output, and these are the
  -- reports.
  pub record TraceGuarantees (lines : List (List ℕ)) (text told : List ℕ) : Type 0 where
    pub past : ItemHistory
    pub spelled : SpelledBy lines past
    pub keeps : AtEach (StepGuarantees beginning) past
    pub written : OutputOf past text
    pub is_told : FaultReportsOf lines told

-- ---- how a trace ends

-- bytes were read that are these lines, the newest first; the last may lack its line feed
abbrev pub ConsumesLines : Streams → List (List ℕ) → Type 0
ConsumesLines streams lines =
    (taken : List ℕ) × Consumes streams.unread streams.left taken × (lines_of taken ≡ reverse lines)

-- they were read, each with its line feed, and after them bytes that were not examined
abbrev pub TakesAlso : Streams → List (List ℕ) → List ℕ → Type 0
TakesAlso streams lines more =
    Consumes streams.unread streams.left (flat_map ended (reverse lines) ++ more)

-- a trace that stops at a line that cannot be parsed has none after it
abbrev pub AreParseableLines : Choice → List (List ℕ) → Type 0
AreParseableLines choice lines = choice.is_strict ≡ true → All IsFine lines

-- the last of the lines that cannot be parsed has this number
abbrev pub LastUnreadable : ℕ → List (List ℕ) → Type 0
LastUnreadable number [] = ⊥
LastUnreadable number (line ∷ lines) =
    (IsUnreadableLine line × (number ≡ length lines + 1)) ⊎ (IsFine line × LastUnreadable number lines)

-- the last line cannot be parsed, and those before can; or the input is at its end, and some line cannot be parsed
abbrev pub EndsBad : Bool → ℕ → Streams → List (List ℕ) → Type 0
EndsBad true number streams [] = ⊥
EndsBad true number streams (line ∷ lines) =
    IsUnreadableLine line × (number ≡ length lines + 1) × All IsFine lines
EndsBad false number streams lines = LastUnreadable number lines × IsAtEnd streams.left

module _ {F K : Type 0} (beginning : ItemBeginning F K) (choice : Choice) (streams : Streams) where
  -- all of the output and the reports was written
  abbrev pub WroteAll : List (List ℕ) → Type 0
  WroteAll lines =
      (text : List ℕ) × (told : List ℕ) × TraceGuarantees beginning choice.shows lines text told
      × Appends streams.before streams.after text × Appends streams.unsaid streams.said told

  -- a prefix of the output was written
  abbrev pub WrotePrefix : List (List ℕ) → Type 0
  WrotePrefix lines =
      (text : List ℕ) × (told : List ℕ) × TraceGuarantees beginning choice.shows lines text told
      × AppendsFront streams.before streams.after text × Appends streams.unsaid streams.said told

  -- These lines were read. If the input is at its end or a read fails, all of their output is written; a line that the
  -- failure cuts off has none. A write that fails is the last; if an allocation fails, at most one more line was read.
  abbrev pub TracesInput : Outcome → Type 0
  TracesInput (Ended Whole) =
      (lines : List (List ℕ)) × ConsumesLines streams lines × IsAtEnd streams.left × All IsFine lines × WroteAll lines
  TracesInput (Ended (BadLine number)) =
      (lines : List (List ℕ)) × ConsumesLines streams lines × EndsBad choice.is_strict number streams lines
      × WroteAll lines
  TracesInput (Ended ReadFailed) =
      (lines : List (List ℕ)) × ((cut : List ℕ) × NoFeed cut × TakesAlso streams lines cut)
      × AreParseableLines choice lines × WroteAll lines
  TracesInput WriteFailed = (lines : List (List ℕ)) × ConsumesLines streams lines × AreParseableLines choice lines
      × WrotePrefix lines
  TracesInput Closed = (lines : List (List ℕ)) × ConsumesLines streams lines × AreParseableLines choice lines
      × WrotePrefix lines
  TracesInput OutOfMemory =
      (lines : List (List ℕ)) × ((more : List ℕ) × (length (lines_of more) ≤ 1) × TakesAlso streams lines more)
      × AreParseableLines choice lines × WroteAll lines
  TracesInput WrongArguments = ⊥

-- ---- a trace from its beginning

module _ {F R C K : Type 0} {f : _} {c : _} {q : _} {m : _} {r : _} where
  -- a beginning of a recovery with its own controllers and queues
  abbrev pub origin : Recovery F (List ℕ) R C K (Unit {0}) (Unit {0}) (List ℕ) f c q m r → RecoveryConfig F → ℕ → Stream
      → ItemBeginning F K
  origin recovery config start random =
      begins f.built c.words (queue_model q.contents q.words q.blank) config start random

  -- from a recovery without any event, however it began
  abbrev pub TracesFrom : Recovery F (List ℕ) R C K (Unit {0}) (Unit {0}) (List ℕ) f c q m r → Choice → Streams
      → Outcome → Type 0
  TracesFrom recovery choice streams outcome = (config : RecoveryConfig F) (start : ℕ) (random : Stream) →
      ReachedBy (origin recovery config start random) [] (state_of recovery)
      → TracesInput (origin recovery config start random) choice streams outcome

-- from time 0 on, with these controllers and a peer at an address with its port
abbrev pub TracesOver : {F K : Type 0} → (F → ℕ → ℕ → K) → ControllerSemantics K → F → Choice → Streams → Outcome
    → Type 0
TracesOver built words factory choice streams outcome =
    (remote : SocketAddr) × IsDocumentationAddress first_port remote
    × TracesInput (begun_over built words factory choice.seed remote) choice streams outcome

-- the same with the chosen controllers: NewReno (RFC 9002, 7), CUBIC (RFC 9438), or those of a fixed window
abbrev pub TracesBy : Controllers → Choice → Streams → Outcome → Type 0
TracesBy NewReno choice streams outcome = TracesOver reno_made reno_words default_reno choice streams outcome
TracesBy Cubic choice streams outcome = TracesOver cubic_made cubic_words default_window choice streams outcome
TracesBy (Fixed factory) choice streams outcome =
    TracesOver (λ fixed now mtu. fixed_made fixed.window) fixed_words factory choice streams outcome

-- a trace after the header record of qlog, or a write of that failed, and nothing was read
abbrev pub TracesBehind : Choice → Streams → Outcome → Type 0
TracesBehind choice streams outcome =
    ((headed : Option (List ℕ)) × Appends streams.before headed header_text
    × TracesBy choice.controllers choice (record streams { before = headed }) outcome)
    ⊎ (IsBroken outcome × AppendsFront streams.before streams.after header_text × (streams.left ≡ streams.unread)
    × (streams.said ≡ streams.unsaid))

abbrev pub TracesWith : Shown → Choice → Streams → Outcome → Type 0
TracesWith Qlog choice streams outcome = TracesBehind choice streams outcome
TracesWith shows choice streams outcome = TracesBy choice.controllers choice streams outcome

abbrev pub TracesAs : Choice → Streams → Outcome → Type 0
TracesAs choice streams outcome = TracesWith choice.shows choice streams outcome
