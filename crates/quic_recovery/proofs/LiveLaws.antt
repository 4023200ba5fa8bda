-- The past of a live recovery goes on with an event, whichever method applies it.
use Rattle.recovery_events.specs.declared.event.Event.{Event}
use Rattle.recovery_history.specs.History.{Reply}
use Rattle.recovery_history.proofs.ReachabilityLaws.{extended, extends, still_came}
use Rattle.quic_recovery.specs.declared.driver.Recovery.{Recovery}
use Rattle.quic_recovery.specs.Live.{AppliesEvent, IsReachable, LiveStep}
use Rattle.quic_recovery.specs.State.{Transition}

module _ {F Q R C K S M P : Type 0} {f : _} {c : _} {q : _} {m : _} {r : _}
    (old : Recovery F Q R C K S M P f c q m r) (event : Event Q S M P) (reply : Reply Q)
    (new : Recovery F Q R C K S M P f c q m r) (changes : Transition event old reply new) where
  steps_on : LiveStep old event reply new
  steps_on = λ config start random past came. extends _ past _ _ _ _ came changes new.balanced

  pub applies_event : ∥ IsReachable old ∥₁ → AppliesEvent old event reply new
  applies_event came = record {
    changes = changes;
    in_flight = record { current = new.balanced.current; previous = new.balanced.previous };
    extends = steps_on;
    extended = extended steps_on came;
  }

  -- some past led to the new state
  pub comes_live : ∥ IsReachable old ∥₁ → ∥ IsReachable new ∥₁
  comes_live came = still_came steps_on came
