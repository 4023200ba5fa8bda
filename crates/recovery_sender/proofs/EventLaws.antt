-- The effect of an event on a sender, by whether it changes the path in use.
use Rattle.std.proofs.Common.{◌≡◌, Bool, true, false, true≢false, [], ◌∷◌, Result, Ok, Err, refl, sym, subst}
use Rattle.recovery_events.specs.declared.event.Answer.{Answer}
use Rattle.recovery_events.specs.declared.event.Event.{Event}
use Rattle.recovery_events.specs.declared.event.Event.TheVariants.{NewPath, RevertPath}
use Rattle.recovery_events.specs.declared.event.Refusal.{Refusal}
use Rattle.recovery_history.specs.RecoveryState.{RecoveryState}
use Rattle.recovery_sender.specs.declared.sender.SenderError.{SenderError}
use Rattle.recovery_sender.specs.declared.sender.SenderError.TheVariants as refused
use Rattle.recovery_sender.specs.declared.sender.Sender.{Sender}
use Rattle.recovery_sender.specs.Calls.{IsEventResult, PathEventResult, after_event, changes_path}
use Rattle.recovery_sender.specs.PathChanges.{IsFailedEvent, is_decided}
use Rattle.recovery_sender.specs.Senders.{state_in}
use Rattle.recovery_sender.specs.Steps.{CompletesCall, TakesSteps, told}

-- the sender decides no event that leaves the path in use
undecided : {K Q S M P : Type 0} (event : Event Q S M P) (recovery : RecoveryState K P M)
    → changes_path event ≡ false → is_decided event recovery ≡ false
undecided (NewPath now remote is_fresh) recovery stays = absurd (true≢false stays)
undecided RevertPath recovery stays = absurd (true≢false stays)
undecided event recovery stays = refl

module _ {F Q R C K S M P : Type 0} {f : _} {c : _} {q : _} {m : _} {r : _} (event : Event Q S M P)
    (old new : Sender F Q R C K S M P f c q m r) where
  pub path_changed : true ≡ changes_path event → (reply : Result (Answer Q) SenderError)
      → PathEventResult event old new reply → IsEventResult event old new reply
  path_changed changed (Ok answer) changes = rw (← changed) changes
  path_changed changed (Err (refused.Event refusal)) fails = fails
  path_changed changed (Err other) never = absurd never

  pub event_answered : false ≡ changes_path event → (answer : Answer Q)
      → CompletesCall (told event (Ok answer) ∷ []) (after_event event answer old.variables) old new
      → IsEventResult event old new (Ok answer)
  event_answered stays answer does = rw (← stays) does

  -- such an event fails by the recovery's own reply
  pub event_failed : false ≡ changes_path event → (refusal : Refusal)
      → TakesSteps (told event (Err refusal) ∷ []) old new
      → IsEventResult event old new (Err (refused.Event refusal))
  event_failed stays refusal goes =
      subst (λ (decided : Bool). IsFailedEvent event old new refusal decided)
      (sym (undecided event (state_in old) (sym stays))) goes

  pub failed_takes : changes_path event ≡ false → (refusal : Refusal)
      → IsEventResult event old new (Err (refused.Event refusal))
      → TakesSteps (told event (Err refusal) ∷ []) old new
  failed_takes stays refusal fails =
      subst (λ (decided : Bool). IsFailedEvent event old new refusal decided)
      (undecided event (state_in old) stays) fails
