-- ACK_FREQUENCY frames (draft-ietf-quic-ack-frequency-04, section 4): a frame is the newest if its number is above
-- those of all received before it. It is accepted exactly if it is the newest and asks for a millisecond or more. If
-- only the delay is too small, it is rejected.
use Rattle.std.specs.Prelude.{◌≡◌, ℕ, Bool, true, false, not, ◌&&◌, nat_lt, [], ◌∷◌, Ok, Err, if◌then◌else◌}
use Rattle.recovery_base.specs.declared.below.SpaceId.TheVariants.{Data}
use Rattle.recovery_base.specs.Units.{timer_granularity}
use Rattle.recovery_acks.specs.AckFrequencies.{delay_of}
use Rattle.recovery_events.specs.declared.event.Event.{Event}
use Rattle.recovery_events.specs.declared.event.Event.TheVariants.{AckFrequencyIn}
use Rattle.recovery_events.specs.declared.event.Answer.TheVariants.{Flag}
use Rattle.recovery_events.specs.declared.event.Refusal.TheVariants.{SpaceDiscarded, DelayTooSmall}
use Rattle.recovery_history.specs.History.{History, Reply}
use Rattle.recovery_history.specs.Promises.NewNumbers.{is_discarded}

module _ {Q S M P : Type 0} where
  -- the number is above those of all frames received
  abbrev pub is_newest : ℕ → History Q S M P → Bool
  is_newest n [] = true
  is_newest n ((AckFrequencyIn frame, Ok answer) ∷ earlier) = nat_lt frame.sequence n && is_newest n earlier
  is_newest n ((AckFrequencyIn frame, Err DelayTooSmall) ∷ earlier) = nat_lt frame.sequence n && is_newest n earlier
  is_newest n (happened ∷ earlier) = is_newest n earlier

  abbrev pub AppliesNewestFrequency : History Q S M P → Event Q S M P → Reply Q → Type 0
  AppliesNewestFrequency history (AckFrequencyIn frame) reply =
      reply ≡ (if is_discarded Data history then Err SpaceDiscarded
      else if not (is_newest frame.sequence history) then Ok (Flag false)
      else if nat_lt (delay_of frame) timer_granularity then Err DelayTooSmall
      else Ok (Flag true))
  AppliesNewestFrequency history event reply = Unit {0}
