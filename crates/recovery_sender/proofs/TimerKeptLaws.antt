-- Calls of a sender that leave the timer unchanged.
use Rattle.std.proofs.Common.{◌≡◌, ◌∷◌, [], ℕ, true, false, Bool, None, Ok, refl, sym, true≢false}
use Rattle.std.specs.Prelude.{if◌then◌else◌}
use Rattle.recovery_events.specs.declared.event.Answer.{Answer}
use Rattle.recovery_events.specs.declared.event.Answer.TheVariants.{Done}
use Rattle.recovery_events.specs.declared.event.Event.{Event}
use Rattle.recovery_events.specs.declared.event.Event.TheVariants.{DatagramIn, PollMtu, Send}
use Rattle.recovery_paths.specs.declared.path_pair.PathName.TheVariants.{Current}
use Rattle.recovery_paths.specs.PathStates.{PathMarks}
use Rattle.recovery_history.specs.CallerState.{with_marks_at}
use Rattle.recovery_history.specs.Transitions.{StateTransition}
use Rattle.recovery_history.specs.History.{QueueModel, queue_model}
use Rattle.recovery_history.specs.RecoveryState.{RecoveryState}
use Rattle.recovery_sender.specs.declared.sender.Sender.{Sender}
use Rattle.recovery_losses.specs.declared.variables.Variables.{Variables}
use Rattle.recovery_sender.specs.declared.sender.packets.Transmission.{Transmission}
use Rattle.recovery_losses.specs.Variables.{based, probed}
use Rattle.recovery_sender.specs.Calls.{after_event, elicits_in, goes_out, to_send, transmit_steps}
use Rattle.recovery_sender.specs.TimerUnchanged.{leaves_timer}
use Rattle.recovery_sender.specs.Senders.{state_in}
use Rattle.recovery_sender.specs.Steps.{marked, told, TakesSteps}
use Rattle.recovery_sender.proofs.TimerUnchangedLaws.{KeepsTiming, keeps_timing, left_by, received_in, timing_in, transmitted_left}

-- ---- an event

none_sent : {Q S M P : Type 0} (event : Event Q S M P) → leaves_timer event ≡ true → to_send event ≡ None
none_sent (Send space now size eliciting largest queue frames) is = absurd (true≢false (sym is))
none_sent (PollMtu now) is = absurd (true≢false (sym is))
none_sent event is = refl

none_elicits : {Q S M P : Type 0} (event : Event Q S M P) → leaves_timer event ≡ true → elicits_in event ≡ None
none_elicits (Send space now size eliciting largest queue frames) is = absurd (true≢false (sym is))
none_elicits event is = refl

module _ {K Q S M P : Type 0} (queue : QueueModel Q S M P) (variables : Variables) (old new : RecoveryState K P M) where
  pub event_left : (event : Event Q S M P) (answer : Answer Q) → leaves_timer event ≡ true
      → StateTransition queue old event (Ok answer) new
      → (here : RecoveryState K P M) (given : Variables) → here ≡ new → given ≡ after_event event answer variables
      → KeepsTiming old variables here given
  event_left event answer leaves changes here given is_here is_given =
      keeps_timing old new here variables (after_event event answer variables) given is_here is_given
      (rw (none_sent event leaves, none_elicits event leaves) (go (goes_out answer)))
    where
      go : (out : Bool) → timing_in new (probed (if out then None else None) (based (if out then None else None)
          variables)) ≡ timing_in old variables
      go true = left_by queue variables old new event answer leaves changes
      go false = left_by queue variables old new event answer leaves changes

-- ---- calls on a path without an amplification limit

module _ {F Q R C K S M P : Type 0} {f : _} {c : _} {q : _} {m : _} {r : _}
    (old new : Sender F Q R C K S M P f c q m r) where
  pub receives_left : (bytes : ℕ) → TakesSteps (told (DatagramIn Current bytes) (Ok Done) ∷ []) old new
      → (state_in old).paths.current.state.validated ≡ true
      → KeepsTiming (state_in old) old.variables (state_in new) new.variables
  receives_left bytes goes unlimited =
      let leads = goes.leads in
      keeps_timing (state_in old) leads.0 (state_in new) old.variables old.variables new.variables leads.3
      goes.variables (received_in (queue_model q.contents q.words q.blank) old.variables (state_in old) leads.0
      unlimited bytes Done leads.1)

  pub transmits_left : (now bytes : ℕ) (checked : Bool) (sent : Transmission)
      → TakesSteps (transmit_steps now bytes checked sent) old new
      → (state_in old).paths.current.state.validated ≡ true
      → KeepsTiming (state_in old) old.variables (state_in new) new.variables
  transmits_left now bytes checked sent goes unlimited =
      keeps_timing (state_in old) (state_in new) (state_in new) old.variables old.variables new.variables refl
      goes.variables (transmitted_left f.built c.words (queue_model q.contents q.words q.blank) old.variables
      (state_in old) (state_in new) unlimited now bytes checked sent goes.leads)

  -- marks of the path in use are stored
  pub marks_left : (marks : PathMarks) → TakesSteps (marked marks ∷ []) old new
      → KeepsTiming (state_in old) old.variables (state_in new) new.variables
  marks_left marks goes = keeps_timing (state_in old) (with_marks_at Current marks (state_in old)) (state_in new)
      old.variables old.variables new.variables goes.leads goes.variables refl
