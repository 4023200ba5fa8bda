-- The past of a live recovery, stated for `Recovery` values.
use Rattle.recovery_events.specs.declared.event.Event.{Event}
use Rattle.quic_recovery.specs.declared.driver.Recovery.{Recovery}
use Rattle.recovery_history.specs.History.{Reply, queue_model}
use Rattle.recovery_history.specs.Reachability.{IsReachableState, StepFromAnyPast, StepFromSomePast, PreservesPastsOf}
use Rattle.recovery_history.specs.StateAfter.{InFlightAfter}
use Rattle.recovery_history.specs.Transitions.{inputs_of}
use Rattle.quic_recovery.specs.State.{state_of, Transition}

module _ {F Q R C K S M P : Type 0} {f : _} {c : _} {q : _} {m : _} {r : _} where
  abbrev pub IsReachable : Recovery F Q R C K S M P f c q m r → Type 0
  IsReachable recovery = IsReachableState f.built c.words (queue_model q.contents q.words q.blank) (state_of recovery)

  abbrev pub LiveStep : Recovery F Q R C K S M P f c q m r → Event Q S M P → Reply Q
      → Recovery F Q R C K S M P f c q m r
      → Type 0
  LiveStep old event reply new =
      StepFromAnyPast f.built c.words (queue_model q.contents q.words q.blank) (state_of old) event reply (state_of new)

  abbrev pub LiveStepFromSome : Recovery F Q R C K S M P f c q m r → Event Q S M P → Reply Q
      → Recovery F Q R C K S M P f c q m r → Type 0
  LiveStepFromSome old event reply new =
      StepFromSomePast f.built c.words (queue_model q.contents q.words q.blank) (state_of old) event reply
      (state_of new)

  abbrev pub PreservesPasts : Recovery F Q R C K S M P f c q m r → Recovery F Q R C K S M P f c q m r → Type 0
  PreservesPasts old new =
      PreservesPastsOf f.built c.words (queue_model q.contents q.words q.blank) (state_of old) (state_of new)

  -- the promises of `LiveRecovery::apply` for an event and its reply, for every past
  pub record AppliesEvent (old : Recovery F Q R C K S M P f c q m r) (event : Event Q S M P) (reply : Reply Q)
      (new : Recovery F Q R C K S M P f c q m r) : Type 0 where
    pub changes : Transition event old reply new
    pub in_flight : InFlightAfter (inputs_of (state_of new)) (state_of new).paths
    pub extends : LiveStep old event reply new
    pub extended : ∥ LiveStepFromSome old event reply new ∥₁
