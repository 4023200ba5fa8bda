-- What a run does with a source of events and a sink of replies.
use Rattle.std.specs.Prelude.{List}
use Rattle.quic_recovery.specs.declared.driver.Recovery.{Recovery}
use Rattle.recovery_events.specs.declared.event.Event.{Event}
use Rattle.recovery_history.specs.History.{Beginning, Reply, history, Throughout}
use Rattle.recovery_history.specs.RecoveryState.{RecoveryState}
use Rattle.recovery_paths.specs.PathLog.{paths_marks}
use Rattle.recovery_history.specs.CallerState.{AreMarksFresh, HasNoLossTime}
use Rattle.recovery_history.specs.Reachability.{ReachedBy, StepGuarantees}
use Rattle.quic_recovery.specs.Live.{LiveStep}
use Rattle.quic_recovery.specs.State.{Transition}

-- an event was applied, and its one reply was put into the sink
pub record StepIntoSink {F Q R C K S M P T : Type 0} {f : _} {c : _} {q : _} {m : _} {r : _}
    (takes : T → Reply Q → T → Type 0) (old : Recovery F Q R C K S M P f c q m r) (before : T) (event : Event Q S M P)
    (new : Recovery F Q R C K S M P f c q m r) (behind : T) : Type 0 where
  pub reply : Reply Q
  pub changes : Transition event old reply new
  pub extends : LiveStep old event reply new
  pub taken : takes before reply behind

-- these events were given and these replies taken, one each; each promise holds for each event and its reply, and the
-- state was reached by them
pub record RunOverSource {F K Q S M P : Type 0} (beginning : Beginning F K Q S M P)
    (AreGiven : List (Event Q S M P) → Type 0) (AreTaken : List (Reply Q) → Type 0)
    (recovery : RecoveryState K P M) : Type 0
  where
    pub events : List (Event Q S M P)
    pub replies : List (Reply Q)
    pub given : AreGiven events
    pub taken : AreTaken replies
    pub keeps : Throughout (StepGuarantees beginning) events replies
    pub came : ReachedBy beginning (history events replies) recovery
    -- the caller's marks of each path and loss times of each space are the initial ones
    pub marks : AreMarksFresh (paths_marks recovery.paths)
    pub loss_times : HasNoLossTime recovery.spaces
