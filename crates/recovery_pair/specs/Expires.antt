-- The loss detection timer acts at its time (RFC 9002, 6.2.1, 6.2.4 and A.9).
use Rattle.std.specs.Prelude.{◌≡◌, ◌≢◌, ℕ, ◌≤◌, ◌⊎◌, true, false, None, IsSomeAnd, Result, Ok, Err}
use Rattle.recovery_base.specs.declared.below.SpaceId.{SpaceId}
use Rattle.recovery_base.specs.declared.timer.Timer.TheVariants.{LossDetection}
use Rattle.recovery_base.specs.Timers.{moment}
use Rattle.recovery_events.specs.declared.event.Refusal.TheVariants.{NoMemory}
use Rattle.recovery_losses.specs.Variables.{is_address_validated, is_probe_due, waiting_since}
use Rattle.recovery_sender.specs.Promises.Liveness.{IsAckOwed, loss_time_in}
use Rattle.recovery_sender.specs.Senders.{state_in}
use Rattle.recovery_sender.specs.Timeouts.{IsEarly, TimeoutResult}
use Rattle.recovery_sender.specs.declared.sender.Sender.{Sender}
use Rattle.recovery_sender.specs.declared.sender.SenderError.{SenderError}
use Rattle.recovery_sender.specs.declared.sender.SenderError.TheVariants.{Event}
use Rattle.recovery_sender.specs.declared.sender.probes.Timeout.{Timeout}
use Rattle.recovery_sender.specs.declared.sender.probes.Timeout.TheVariants.{Lost, Nothing, Probe}
use Rattle.recovery_pair.specs.declared.steps.LocalStep.{LocalStep}
use Rattle.recovery_pair.specs.declared.steps.LocalStep.TheVariants.{Expire}
use Rattle.recovery_pair.specs.declared.steps.PairAnswer.{PairAnswer}
use Rattle.recovery_pair.specs.declared.steps.PairAnswer.TheVariants.{Expired}
use Rattle.recovery_pair.specs.declared.steps.PairStep.{PairStep}
use Rattle.recovery_pair.specs.declared.steps.PairStep.TheVariants.{Local}
use Rattle.recovery_pair.specs.AddressKnown.{Known}
use Rattle.recovery_pair.specs.Timed.{IsTimedAs}
use Rattle.recovery_pair.specs.Turns.{TurnsAt}

-- what is answered to the step, by what the sender answers
abbrev pub expired : Result Timeout SenderError → Result PairAnswer SenderError
expired (Ok timeout) = Ok (Expired timeout)
expired (Err refusal) = Err refusal

module _ {F Q R C K S M P : Type 0} {f : _} {c : _} {q : _} {m : _} {r : _} where
  -- the time of the timer has come
  abbrev pub IsDue : ℕ → Sender F Q R C K S M P f c q m r → Type 0
  IsDue now sender = IsSomeAnd (moment LossDetection (state_in sender).timers) (λ time. time ≤ now)

  -- a packet of the space is lost by its age (RFC 9002, 6.1.2)
  abbrev pub IsLossDue : ℕ → SpaceId → Sender F Q R C K S M P f c q m r → Type 0
  IsLossDue now space sender = IsSomeAnd (loss_time_in (state_in sender) space) (λ time. time ≤ now)

  -- Nothing is due before the time. At it a space with a packet lost by its age gets a loss detection pass, which alone
  -- may fail. Or probes are due: two in a space with an ack-eliciting packet in flight, or with a packet that waits for
  -- room in the window; or one at a client that does not know its address validated.
  abbrev pub ActsInTime : ℕ → Result PairAnswer SenderError → Sender F Q R C K S M P f c q m r
      → Sender F Q R C K S M P f c q m r → Type 0
  ActsInTime now (Ok (Expired Nothing)) old new = IsEarly now (moment LossDetection (state_in old).timers)
  ActsInTime now (Ok (Expired (Lost space losses))) old new = IsDue now old × IsLossDue now space old
  ActsInTime now (Ok (Expired (Probe space count))) old new =
      IsDue now old × (is_probe_due new.variables space ≡ true)
      × ((count ≡ 2) × (IsAckOwed (state_in old) old.variables space ⊎ (waiting_since old.variables space ≢ None))
      ⊎ (count ≡ 1) × (is_address_validated old.variables ≡ false))
  ActsInTime now (Ok answer) old new = ⊥
  ActsInTime now (Err refusal) old new =
      IsDue now old × (refusal ≡ Event NoMemory) × (space : SpaceId) × IsLossDue now space old

  -- the sender handles its timer (`TimeoutResult`), and at its time if that follows the events
  abbrev pub TimesOut : ℕ → Result PairAnswer SenderError → Sender F Q R C K S M P f c q m r
      → Sender F Q R C K S M P f c q m r → Type 0
  TimesOut now (Ok (Expired timeout)) old new = TimeoutResult now old new (Ok timeout)
  TimesOut now (Ok answer) old new = ⊥
  TimesOut now (Err refusal) old new = TimeoutResult now old new (Err refusal)

  abbrev pub ExpiresBy : ℕ → Result PairAnswer SenderError → Sender F Q R C K S M P f c q m r
      → Sender F Q R C K S M P f c q m r → Type 0
  ExpiresBy now answer old new =
      TimesOut now answer old new × ((known : Known) → IsTimedAs known old → ActsInTime now answer old new)

  -- probes are due if they are asked for
  abbrev pub AsksIn : Result PairAnswer SenderError → Sender F Q R C K S M P f c q m r → Type 0
  AsksIn (Ok (Expired (Probe space count))) new = is_probe_due new.variables space ≡ true
  AsksIn answer new = Unit {0}

  abbrev pub AsksAt : LocalStep → Result PairAnswer SenderError → Sender F Q R C K S M P f c q m r → Type 0
  AsksAt (Expire now) answer new = AsksIn answer new
  AsksAt step answer new = Unit {0}

  -- a step of an endpoint
  abbrev pub ExpiresInTime : LocalStep → Result PairAnswer SenderError → Sender F Q R C K S M P f c q m r
      → Sender F Q R C K S M P f c q m r → Type 0
  ExpiresInTime (Expire now) answer old new = ExpiresBy now answer old new
  ExpiresInTime step answer old new = Unit {0}

  abbrev pub ExpiresAtEnd : PairStep → Result PairAnswer SenderError → Sender F Q R C K S M P f c q m r
      → Sender F Q R C K S M P f c q m r → Sender F Q R C K S M P f c q m r → Sender F Q R C K S M P f c q m r → Type 0
  ExpiresAtEnd (Local end step) answer = TurnsAt end (ExpiresInTime step answer)
  ExpiresAtEnd step answer = λ client server client_after server_after. Unit {0}
