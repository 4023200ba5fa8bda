-- The steps of a call on the recovery of a sender: events with their replies, loss times and path marks, in order.
use Rattle.std.specs.Prelude.{◌≡◌, ℕ, List, [], ◌∷◌, ◌⊎◌, Option, None, Some, Ok}
use Rattle.recovery_base.specs.declared.below.SpaceId.{SpaceId}
use Rattle.recovery_base.specs.declared.timer.Timer.TheVariants.{LossDetection}
use Rattle.recovery_congestion.specs.Controllers.{ControllerSemantics}
use Rattle.recovery_events.specs.declared.event.Answer.{Answer}
use Rattle.recovery_events.specs.declared.event.Answer.TheVariants.{Done}
use Rattle.recovery_events.specs.declared.event.Event.{Event}
use Rattle.recovery_events.specs.declared.event.Event.TheVariants.{SetTimer, StopTimer}
use Rattle.recovery_paths.specs.declared.path_pair.PathName.TheVariants.{Current}
use Rattle.recovery_paths.specs.PathStates.{PathMarks}
use Rattle.recovery_history.specs.CallerState.{with_loss_time_at, with_marks_at}
use Rattle.recovery_history.specs.History.{QueueModel, Reply, queue_model}
use Rattle.recovery_history.specs.RecoveryState.{RecoveryState}
use Rattle.recovery_history.specs.Reachability.{StepFromAnyPast}
use Rattle.recovery_history.specs.Transitions.{StateTransition}
use Rattle.recovery_sender.specs.declared.sender.Sender.{Sender}
use Rattle.recovery_losses.specs.declared.due.Due.{Due}
use Rattle.recovery_losses.specs.declared.variables.Variables.{Variables}
use Rattle.recovery_sender.specs.Promises.Amplification.{SendsThreefold}
use Rattle.recovery_sender.specs.Promises.Liveness.{IsTimerByEvents, NeverStalls}
use Rattle.recovery_sender.specs.Promises.Pasts.{ForEveryPast, ForEveryRun}
use Rattle.recovery_sender.specs.Senders.{state_in}
use Rattle.recovery_sender.specs.Timer.{due_of, TimerIsSet}

pub data SenderStep (Q S M P : Type 0) : Type 0 where
  -- an event has this reply
  told : (event : Event Q S M P) (reply : Reply Q) → SenderStep Q S M P
  -- an event is answered, as the recovery says
  occurs : (event : Event Q S M P) → SenderStep Q S M P
  -- a packet of a space may be lost at this time, or at none
  loss_time : (space : SpaceId) (time : Option ℕ) → SenderStep Q S M P
  -- the path in use has these marks
  marked : (marks : PathMarks) → SenderStep Q S M P

-- the loss detection timer is set, or stopped
abbrev pub timer_event : {Q S M P : Type 0} → Option (ℕ × Due) → Event Q S M P
timer_event None = StopTimer LossDetection
timer_event (Some due) = SetTimer LossDetection due.0

abbrev pub timed : {Q S M P : Type 0} → Option (ℕ × Due) → SenderStep Q S M P
timed due = told (timer_event due) (Ok Done)

module _ {F K Q S M P : Type 0} (built : F → ℕ → ℕ → K) (words : ControllerSemantics K)
    (queue : QueueModel Q S M P) where
  -- the steps lead from one recovery to another in order: the promises of `LiveRecovery::apply` hold at each event
  abbrev pub StepsLeadTo : List (SenderStep Q S M P) → RecoveryState K P M → RecoveryState K P M → Type 0
  StepsLeadTo [] old new = new ≡ old
  StepsLeadTo (told event reply ∷ steps) old new = (between : RecoveryState K P M)
      × StateTransition queue old event reply between
      × StepFromAnyPast built words queue old event reply between × StepsLeadTo steps between new
  StepsLeadTo (occurs event ∷ steps) old new = (answer : Answer Q) × (between : RecoveryState K P M)
      × StateTransition queue old event (Ok answer) between × StepFromAnyPast built words queue old event
      (Ok answer) between
      × StepsLeadTo steps between new
  StepsLeadTo (loss_time space time ∷ steps) old new = StepsLeadTo steps (with_loss_time_at space time old) new
  StepsLeadTo (marked marks ∷ steps) old new = StepsLeadTo steps (with_marks_at Current marks old) new

  -- the timer is set to what is due, if it is not set so already
  abbrev pub RearmsTimer : Variables → RecoveryState K P M → RecoveryState K P M → Type 0
  RearmsTimer kept old new = TimerIsSet old kept × (new ≡ old)
      ⊎ (TimerIsSet old kept → ⊥) × StepsLeadTo (timed (due_of new kept) ∷ []) old new

module _ {F Q R C K S M P : Type 0} {f : _} {c : _} {q : _} {m : _} {r : _} where
  -- A sender takes these steps; its variables are unchanged.
  pub record TakesSteps (steps : List (SenderStep Q S M P)) (old new : Sender F Q R C K S M P f c q m r) : Type 0 where
    pub leads : StepsLeadTo f.built c.words (queue_model q.contents q.words q.blank) steps (state_in old) (state_in new)
    pub variables : new.variables ≡ old.variables

  -- a call takes these steps and stores these variables; then the timer is set by them, if it is not set so already
  pub record CompletesCall (steps : List (SenderStep Q S M P)) (kept : Variables)
      (old new : Sender F Q R C K S M P f c q m r)
      : Type 0 where
    pub between : RecoveryState K P M
    pub leads : StepsLeadTo f.built c.words (queue_model q.contents q.words q.blank) steps (state_in old) between
    pub sets : RearmsTimer f.built c.words (queue_model q.contents q.words q.blank) kept between (state_in new)
    pub variables : new.variables ≡ kept
    pub timer : TimerIsSet (state_in new) new.variables
    -- until an address is validated, at most three times the bytes received from it were sent to it
    pub limited : ForEveryRun new SendsThreefold
    -- so that it never stalls
    pub alive : ForEveryPast new (λ past. NeverStalls (state_in new) new.variables)
    -- and so is the timer, by the events so far
    pub running : ForEveryRun new (λ beginning past. IsTimerByEvents beginning past (state_in new) new.variables)
