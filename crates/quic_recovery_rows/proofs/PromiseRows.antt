-- Worked rows of the promises of events and answers only, computed: with the right answer each holds, and with a wrong
-- one it does not. Nothing rests on them.
use Rattle.std.proofs.Common.{◌≡◌, ℕ, ◌^◌, true, false, [], ◌∷◌, Some, Ok, Err, refl}
use Rattle.recovery_base.specs.declared.below.SpaceId.TheVariants.{Initial, Data}
use Rattle.recovery_base.specs.declared.timer.Timer.TheVariants.{Idle, Pacing}
use Rattle.recovery_events.specs.declared.event.Event.{Event}
use Rattle.recovery_events.specs.declared.event.Event.TheVariants as event
use Rattle.recovery_events.specs.declared.event.Answer.TheVariants as answer
use Rattle.recovery_events.specs.declared.event.Refusal.TheVariants as refusal
use Rattle.recovery_history.specs.History.{History, Reply}
use Rattle.recovery_history.specs.Promises.NewNumbers.{DetectsDuplicates}
use Rattle.recovery_history.specs.Promises.ResolvedOnce.{departures_of}
use Rattle.recovery_history.specs.Promises.Timeouts.{ReportsNextTimeout}

module _ (Q S M P : Type 0) where
  abbrev came : ℕ → Event Q S M P × Reply Q
  came n = (event.Received Data 5 n true, Ok (answer.New true))

  -- ---- new numbers: 200 and 100 were received, and Initial was discarded

  abbrev numbers : History Q S M P
  numbers = (event.DiscardSpace Initial, Ok answer.Done) ∷ came 100 ∷ came 200 ∷ []

  window_end : DetectsDuplicates numbers (event.Received Data 7 72 true) (Ok (answer.New false))
  window_end = refl

  too_old : DetectsDuplicates numbers (event.Received Data 7 71 true) (Ok answer.Duplicate)
  too_old = refl

  too_old_is_not_new : ¬ DetectsDuplicates numbers (event.Received Data 7 71 true) (Ok (answer.New true))
  too_old_is_not_new = λ e. cc

  again_is_not_new : ¬ DetectsDuplicates numbers (event.Received Data 7 100 true) (Ok (answer.New true))
  again_is_not_new = λ e. cc

  discarded : DetectsDuplicates numbers (event.Received Initial 7 0 true) (Err refusal.SpaceDiscarded)
  discarded = refl

  large : DetectsDuplicates numbers (event.Received Data 7 (2 ^ 62) true) (Err refusal.NumberTooLarge)
  large = refl

  -- ---- timers: Idle was set to 50 and Pacing to 20, and then Pacing was stopped

  abbrev timers : History Q S M P
  timers =
      (event.StopTimer Pacing, Ok answer.Done)
      ∷ (event.SetTimer Pacing 20, Ok answer.Done)
      ∷ (event.SetTimer Idle 50, Ok answer.Done)
      ∷ []

  least_is_told : ReportsNextTimeout timers event.NextTimeout (Ok (answer.Timeout (Some 50)))
  least_is_told = refl

  first_set_is_wrong : ¬ ReportsNextTimeout timers event.NextTimeout (Ok (answer.Timeout (Some 20)))
  first_set_is_wrong = λ e. cc

  both_set : ReportsNextTimeout ((event.SetTimer Pacing 30, Ok answer.Done) ∷ timers) event.NextTimeout
      (Ok (answer.Timeout (Some 30)))
  both_set = refl

  -- ---- packets leave once: number 4 of 1-RTT packets was acknowledged, and 5 of Initial ones was lost

  abbrev left : History Q S M P
  left = (event.Acked Data 9 4 false, Ok (answer.Acked false)) ∷ (event.Lost Initial 5, Ok (answer.Lost false)) ∷ []

  one_left : departures_of Data 4 left ≡ 1
  one_left = refl

  none_left_elsewhere : departures_of Initial 4 left ≡ 0
  none_left_elsewhere = refl

  lost_too_is_twice : departures_of Data 4 ((event.Lost Data 4, Ok (answer.Lost false)) ∷ left) ≡ 2
  lost_too_is_twice = refl

  refused_is_none : departures_of Data 4 ((event.Lost Data 4, Err refusal.NotTracked) ∷ left) ≡ 1
  refused_is_none = refl
