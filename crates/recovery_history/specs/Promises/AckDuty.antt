-- The duty to acknowledge (RFC 9000, 13.2.1): while an ack-eliciting packet waits, an ACK is required at once, or the
-- ACK delay timer runs. `IsRequired` defines when an ACK is required.
use Rattle.std.specs.Prelude.{◌≡◌, ◌⊎◌, Bool, true, false, not, ◌&&◌, ◌||◌, [], ◌∷◌, Ok}
use Rattle.recovery_base.specs.declared.below.SpaceId.{SpaceId}
use Rattle.recovery_base.specs.Spaces.{same_space}
use Rattle.recovery_spaces.specs.Acks.{IsRequired}
use Rattle.recovery_events.specs.declared.event.Event.{Event}
use Rattle.recovery_events.specs.declared.event.Event.TheVariants.{Received, AcksSent, AckDelayTimeout}
use Rattle.recovery_events.specs.declared.event.Answer.TheVariants.{New}
use Rattle.recovery_history.specs.RepliesAfter.{logs_of}
use Rattle.recovery_history.specs.History.{Beginning, History, Reply}

module _ {Q S M P : Type 0} (space : SpaceId) where
  -- an ACK of the space is sent
  abbrev pub acknowledges : Event Q S M P × Reply Q → Bool
  acknowledges (AcksSent there, Ok answer) = same_space there space
  acknowledges happened = false

  -- a new ack-eliciting packet was received since the last ACK
  abbrev pub waits : History Q S M P → Bool
  waits [] = false
  waits ((Received there now n true, Ok (New started)) ∷ earlier) = same_space there space || waits earlier
  waits (happened ∷ earlier) = not (acknowledges happened) && waits earlier

  -- the ACK delay timer ends when it expires and when an ACK is sent
  abbrev pub ends_timer : Event Q S M P × Reply Q → Bool
  ends_timer (AckDelayTimeout there, Ok answer) = same_space there space
  ends_timer happened = acknowledges happened

  -- by the answers it was started, and it did not end since
  abbrev pub timer_runs : History Q S M P → Bool
  timer_runs [] = false
  timer_runs ((Received there now n eliciting, Ok (New true)) ∷ earlier) = same_space there space || timer_runs earlier
  timer_runs (happened ∷ earlier) = not (ends_timer happened) && timer_runs earlier

module _ {F K Q S M P : Type 0} (beginning : Beginning F K Q S M P) where
  abbrev pub AcknowledgesInTime : History Q S M P → Type 0
  AcknowledgesInTime history = (space : SpaceId) → waits space history ≡ true
      → IsRequired ((logs_of beginning history).spaces space) ⊎ (timer_runs space history ≡ true)

  -- also after an event
  abbrev pub AckIsScheduled : History Q S M P → Event Q S M P → Reply Q → Type 0
  AckIsScheduled before event reply = AcknowledgesInTime ((event, reply) ∷ before)
