-- The results of the loss detection timer (RFC 9002, 6.2 and A.9).
use Rattle.std.specs.Prelude.{◌≡◌, ℕ, ◌<◌, false, ◌⊎◌, [], Option, None, Some, Result, Ok, Err}
use Rattle.recovery_base.specs.declared.below.SpaceId.{SpaceId}
use Rattle.recovery_base.specs.declared.timer.Timer.TheVariants.{LossDetection}
use Rattle.recovery_base.specs.Timers.{moment}
use Rattle.recovery_events.specs.declared.event.Refusal.TheVariants.{NoMemory}
use Rattle.recovery_sender.specs.declared.sender.SenderError.{SenderError}
use Rattle.recovery_sender.specs.declared.sender.SenderError.TheVariants as refused
use Rattle.recovery_sender.specs.declared.sender.losses.Losses.{Losses}
use Rattle.recovery_sender.specs.declared.sender.probes.Timeout.{Timeout}
use Rattle.recovery_sender.specs.declared.sender.probes.Timeout.TheVariants.{Nothing, Lost, Probe}
use Rattle.recovery_sender.specs.declared.sender.Sender.{Sender}
use Rattle.recovery_losses.specs.declared.due.Due.TheVariants.{Losses as losses_due, Probes, AntiDeadlock}
use Rattle.recovery_losses.specs.Variables.{timed_out}
use Rattle.recovery_sender.specs.Calls.{due_now}
use Rattle.recovery_sender.specs.Detection.{DetectsLosses}
use Rattle.recovery_sender.specs.Senders.{state_in}
use Rattle.recovery_sender.specs.Steps.{CompletesCall}
use Rattle.recovery_sender.specs.Timer.{TimerIsSet}

-- it is set to a later time, or not at all
abbrev pub IsEarly : ℕ → Option ℕ → Type 0
IsEarly now None = Unit {0}
IsEarly now (Some time) = now < time

module _ {F Q R C K S M P : Type 0} {f : _} {c : _} {q : _} {m : _} {r : _} where
  -- a pass over the space, not after an ACK; the anti-deadlock timer restarts
  pub record DetectsByTime (space : SpaceId) (now : ℕ) (old : Sender F Q R C K S M P f c q m r) (losses : Losses)
      (new : Sender F Q R C K S M P f c q m r) : Type 0 where
    pub behind : Sender F Q R C K S M P f c q m r
    pub detects : DetectsLosses space now now false old losses behind
    pub does : CompletesCall [] (record old.variables { base = now }) behind new

  -- the pass is made, or there is no room for the numbers that may be lost: then nothing changes
  abbrev pub SearchesByTime : SpaceId → ℕ → Sender F Q R C K S M P f c q m r → Sender F Q R C K S M P f c q m r
      → Result Timeout SenderError → Type 0
  SearchesByTime space now old new (Ok (Lost found losses)) = (found ≡ space) × DetectsByTime space now old losses new
  SearchesByTime space now old new (Ok timeout) = ⊥
  SearchesByTime space now old new (Err refusal) = (refusal ≡ refused.Event NoMemory) × (new ≡ old)

module _ {F Q R C K S M P : Type 0} {f : _} {c : _} {q : _} {m : _} {r : _} (now : ℕ)
    (old new : Sender F Q R C K S M P f c q m r) where
  -- What is due now happens: a pass over a space, two probes, or one against a deadlock (RFC 9002, 6.2.4 and A.9).
  -- Nothing happens before the time, or if allocation fails.
  abbrev pub TimeoutResult : Result Timeout SenderError → Type 0
  TimeoutResult (Ok Nothing) = (due_now now (state_in old) old.variables ≡ None) × (new ≡ old)
  TimeoutResult (Ok (Lost space losses)) =
      (due_now now (state_in old) old.variables ≡ Some (losses_due space)) × DetectsByTime space now old losses new
  TimeoutResult (Ok (Probe space count)) =
      ((due_now now (state_in old) old.variables ≡ Some (Probes space)) × (count ≡ 2)
      ⊎ (due_now now (state_in old) old.variables ≡ Some (AntiDeadlock space)) × (count ≡ 1))
      × CompletesCall [] (timed_out space count now old.variables) old new
  TimeoutResult (Err refusal) = ((space : SpaceId)
      × (due_now now (state_in old) old.variables ≡ Some (losses_due space)))
      × (refusal ≡ refused.Event NoMemory) × (new ≡ old)

  -- in short: before its time the timer does nothing
  abbrev pub WaitsForItsTime : Result Timeout SenderError → Type 0
  WaitsForItsTime reply = TimerIsSet (state_in old) old.variables
      → IsEarly now (moment LossDetection (state_in old).timers) → (reply ≡ Ok Nothing) × (new ≡ old)
