-- A worked row of a history, computed: the entries of its events in the parts, the newest first. Nothing rests on it.
use Rattle.std.proofs.Common.{◌≡◌, ◌^◌, true, [], ◌∷◌, None, Some, Ok, Err, refl}
use Rattle.recovery_base.specs.declared.below.SpaceId.TheVariants.{Initial, Handshake, Data}
use Rattle.recovery_base.specs.declared.timer.Timer.TheVariants.{Idle, Pacing}
use Rattle.recovery_spaces.specs.Acks.{counts_by}
use Rattle.recovery_spaces.specs.Tracked.{packet_sent, sent_by}
use Rattle.recovery_events.specs.declared.event.Event.TheVariants.{Received, Send, SetTimer, StopTimer}
use Rattle.recovery_events.specs.declared.event.Answer.TheVariants as answer
use Rattle.recovery_events.specs.declared.event.Refusal.TheVariants.{NumberTooLarge}
use Rattle.recovery_history.specs.RepliesAfter.{inputs_after, logs_of}
use Rattle.recovery_history.specs.History.{Beginning, History}

module _ {F K Q S M P : Type 0} (beginning : Beginning F K Q S M P) (queue : Q) (frames : M) where
  -- packet 0 was received, one too large was rejected, one was sent, Idle was set to 50 and Pacing to 20, and Pacing
  -- was stopped
  abbrev row : History Q S M P
  row =
      (StopTimer Pacing, Ok answer.Done)
      ∷ (SetTimer Pacing 20, Ok answer.Done)
      ∷ (SetTimer Idle 50, Ok answer.Done)
      ∷ (Send Initial 7 500 true None queue frames, Ok (answer.Sent 0 None))
      ∷ (Received Data 6 (2 ^ 62) true, Err NumberTooLarge)
      ∷ (Received Data 5 0 true, Ok (answer.New true))
      ∷ []

  idle_is_set : (inputs_after beginning row).timer_value Idle ≡ Some 50
  idle_is_set = refl

  pacing_is_stopped : (inputs_after beginning row).timer_value Pacing ≡ None
  pacing_is_stopped = refl

  one_is_tracked : (sent_by beginning.queue.words ((logs_of beginning row).spaces Initial)).tracked
      ≡ (0, packet_sent 0 7 500 true None (beginning.queue.contents queue) frames) ∷ []
  one_is_tracked = refl

  nothing_in_handshake : (logs_of beginning row).spaces Handshake ≡ []
  nothing_in_handshake = refl

  refused_is_nothing : (counts_by ((logs_of beginning row).spaces Data)).largest ≡ Some (0, 5)
  refused_is_nothing = refl
