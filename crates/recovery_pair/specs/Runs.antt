-- A run of two ends over a source of steps: the promises hold at each.
use Rattle.std.specs.Prelude.{ℕ, Bool, List, [], ◌∷◌, Result}
use Rattle.recovery_sender.specs.declared.sender.Sender.{Sender}
use Rattle.recovery_sender.specs.declared.sender.SenderError.{SenderError}
use Rattle.recovery_pair.specs.declared.endpoint.Waiting.{Waiting}
use Rattle.recovery_pair.specs.declared.steps.End.{End}
use Rattle.recovery_pair.specs.declared.steps.PairAnswer.{PairAnswer}
use Rattle.recovery_pair.specs.declared.steps.PairStep.{PairStep}
use Rattle.recovery_pair.specs.declared.steps.WirePacket.{WirePacket}
use Rattle.recovery_pair.specs.Falls.{FallOnce, FallsByRecovery}
use Rattle.recovery_pair.specs.Logs.{PairLog}
use Rattle.recovery_pair.specs.AddressKnown.{Known, KnowsWithCause, known_from}
use Rattle.recovery_pair.specs.NoDeadlock.{AreNeverStuck, AreTimed, IfTied}
use Rattle.recovery_pair.specs.Promises.{KeepsPromises}
use Rattle.recovery_pair.specs.Tied.{IsTied}
use Rattle.recovery_pair.specs.Timed.{AreTimedAs, KeepsTimers}
use Rattle.recovery_pair.specs.Trips.{FallApart, AreInTimeOrder, FallAlong}

-- the promises hold at each step, and each has one answer
abbrev pub HoldAlong : Bool → PairLog → List PairStep → List (Result PairAnswer SenderError) → Type 0
HoldAlong validated log [] [] = Unit {0}
HoldAlong validated log (step ∷ steps) (answer ∷ answers) =
    KeepsPromises validated log (step, answer) × HoldAlong validated ((step, answer) ∷ log) steps answers
HoldAlong validated log steps answers = ⊥

-- the log after these
abbrev pub log_after : PairLog → List PairStep → List (Result PairAnswer SenderError) → PairLog
log_after log (step ∷ steps) (answer ∷ answers) = log_after ((step, answer) ∷ log) steps answers
log_after log steps answers = log

module _ {F Q R C K S M : Type 0} {f : _} {c : _} {q : _} {m : _} {r : _}
    (client server : Sender F Q R C K S M (List ℕ) f c q m r) (wire : List WirePacket)
    (client_waits server_waits : List Waiting) where
  -- a step satisfies the promises, the windows fall once a round trip, and the log is tied again
  abbrev pub StepKeeps : PairStep → Result PairAnswer SenderError → Sender F Q R C K S M (List ℕ) f c q m r
      → Sender F Q R C K S M (List ℕ) f c q m r → List WirePacket → List Waiting → List Waiting → Type 0
  StepKeeps step answer client_after server_after wire_after client_waits_after server_waits_after =
      (validated : Bool) (log : PairLog) → IsTied validated log client server wire client_waits server_waits
      → (KeepsPromises validated log (step, answer) × FallOnce log (step, answer) client server client_after
      server_after)
      × IsTied validated ((step, answer) ∷ log) client_after server_after wire_after client_waits_after
      server_waits_after

  -- its answer is put into a sink
  pub record PairStepIntoSink {T : Type 0} (takes : T → Result PairAnswer SenderError → T → Type 0) (before : T)
      (step : PairStep) (client_after server_after : Sender F Q R C K S M (List ℕ) f c q m r)
      (wire_after : List WirePacket)
      (client_waits_after server_waits_after : List Waiting) (behind : T) : Type 0 where
    pub answer : Result PairAnswer SenderError
    pub keeps : StepKeeps step answer client_after server_after wire_after client_waits_after server_waits_after
    pub timer_set : KeepsTimers (step, answer) client server client_after server_after
    pub taken : takes before answer behind

  -- these steps were given, and these answers taken
  pub record StepsOverSource (AreGiven : List PairStep → Type 0)
      (IsTaken : List (Result PairAnswer SenderError) → Type 0)
      (client_after server_after : Sender F Q R C K S M (List ℕ) f c q m r)
      (wire_after : List WirePacket)
      (client_waits_after server_waits_after : List Waiting) : Type 0 where
    pub steps : List PairStep
    pub answers : List (Result PairAnswer SenderError)
    pub given : AreGiven steps
    pub taken : IsTaken answers
    pub keeps : (validated : Bool) (log : PairLog)
        → IsTied validated log client server wire client_waits server_waits → HoldAlong validated log steps answers
        × IsTied validated (log_after log steps answers) client_after server_after wire_after client_waits_after
        server_waits_after
    -- the windows fall once a round trip
    pub falls : (validated : Bool) (log : PairLog)
        → IsTied validated log client server wire client_waits server_waits
        → FallAlong log steps answers client server client_after server_after
    -- If the clock does not go back, the falls of an endpoint are a trip apart, by whatever states the steps lead that
    -- reduce windows so.
    pub apart : FallsByRecovery c.words → (log : PairLog) (time : ℕ) → AreInTimeOrder time steps → (end : End)
        → (along : FallAlong log steps answers client server client_after server_after)
        → FallApart end log steps answers client server client_after server_after along
    -- the timer of each endpoint follows the events after each step, so after all; and what it knows the steps and
    -- answers
    pub timer_set : (first : End → Known) (log : PairLog)
        → AreTimedAs (λ end. known_from end (first end) log) client server
        → AreTimedAs (λ end. known_from end (first end) (log_after log steps answers)) client_after server_after
    -- no endpoint is stuck, and they are never both stuck
    pub unstuck : IfTied client server wire client_waits server_waits (λ validated log.
        AreTimed validated (log_after log steps answers) client_after server_after)
    pub both : IfTied client server wire client_waits server_waits (λ validated log. KnowsWithCause log
        → AreNeverStuck validated (log_after log steps answers) client_after server_after)
