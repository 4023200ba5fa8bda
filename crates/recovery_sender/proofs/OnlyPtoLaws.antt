-- If nothing but a probe of 1-RTT packets may be due, that is still so after one is sent, with the same timeout.
use Rattle.std.proofs.Common.{◌≡◌, ℕ, Bool, Option, None, Some, Ok, refl, ap, subst, ◌∙◌}
use Rattle.std.proofs.lemmas.Option.{none-some}
use Rattle.std.specs.Prelude.{IfSome, min}
use Rattle.std.specs.Option.{is_some}
use Rattle.recovery_base.specs.declared.below.SpaceId.{SpaceId}
use Rattle.recovery_base.specs.declared.below.SpaceId.TheVariants.{Initial, Handshake, Data}
use Rattle.recovery_congestion.specs.Rtt.{pto_base_of}
use Rattle.recovery_events.specs.declared.event.Answer.{Answer}
use Rattle.recovery_events.specs.declared.event.Event.TheVariants.{Send}
use Rattle.recovery_spaces.specs.Spaces.{Space}
use Rattle.recovery_losses.specs.declared.variables.Variables.{Variables}
use Rattle.recovery_losses.specs.Timeouts.{probe_timeout_of}
use Rattle.recovery_losses.specs.Variables.{ack_delay_in, based, probed}
use Rattle.recovery_paths.specs.PathLog.{PerPath, PathReplyInputs}
use Rattle.recovery_paths.specs.PathStates.{is_blocked}
use Rattle.recovery_history.specs.History.{QueueModel}
use Rattle.recovery_history.specs.RecoveryState.{RecoveryState}
use Rattle.recovery_history.specs.Unlogged.{UnloggedState}
use Rattle.recovery_history.specs.Transitions.{StateTransition}
use Rattle.recovery_sender.specs.Timer.{IsOnlyPto, only_pto, pto_of, rtt_or, least_datagram}
use Rattle.recovery_sender.proofs.TimerUnchangedLaws.{competes_same, only_by_parts, read_of}

-- what a sent packet changes of the variables is no input of the probe timeout
only_varied : {K P M : Type 0} (recovery : RecoveryState K P M) (variables : Variables) (space : Option SpaceId)
    (time : Option ℕ) → only_pto recovery (probed space (based time variables)) ≡ only_pto recovery variables
only_varied recovery variables None None = refl
only_varied recovery variables None (Some time) = refl
only_varied recovery variables (Some space) None = refl
only_varied recovery variables (Some space) (Some time) = refl

module _ {K Q S M P : Type 0} (queue : QueueModel Q S M P) (variables : Variables) (old new : RecoveryState K P M)
    (now size : ℕ) (eliciting : Bool) (largest : Option ℕ) (contents : Q) (frames : M) (answer : Answer Q)
    (changes : StateTransition queue old (Send Data now size eliciting largest contents frames) (Ok answer) new) where
  discarded : new.discarded ≡ old.discarded
  discarded = ap (λ (plain : UnloggedState). plain.discarded) changes.plain

  still_only : only_pto new variables ≡ only_pto old variables
  still_only = only_by_parts variables old new
      (competes_same variables old new discarded Initial (ap read_of (changes.steps.spaces Initial)))
      (competes_same variables old new discarded Handshake (ap read_of (changes.steps.spaces Handshake)))
      (ap (λ (here : Space P M). is_some here.loss_time) (changes.steps.spaces Data).1) discarded
      (ap (λ (known : PerPath (PathReplyInputs K)). is_blocked known.current.state least_datagram) changes.steps.paths)
      (ap (λ (known : PerPath (PathReplyInputs K)). probe_timeout_of (pto_base_of (rtt_or variables.initial_rtt
      known.current.state.rtt)) (ack_delay_in variables Data) (min variables.pto_count 16)) changes.steps.paths)

module _ {K Q S M P : Type 0} (queue : QueueModel Q S M P) (variables after : Variables)
    (old new here : RecoveryState K P M) (space : SpaceId) (now size : ℕ) (eliciting : Bool) (largest : Option ℕ)
    (contents : Q) (frames : M) (answer : Answer Q) (elicits : Option SpaceId) (time : Option ℕ) (is_here : here ≡ new)
    (is_after : after ≡ probed elicits (based time variables))
    (changes : StateTransition queue old (Send space now size eliciting largest contents frames) (Ok answer) new) where
  pub only_after : (known : Option ℕ) → IsOnlyPto old variables known → IfSome known (λ pto. space ≡ Data)
      → IsOnlyPto here after known
  only_after None only is_data pto at = absurd (none-some pto at)
  only_after (Some known) only is_data pto at =
      let changes : StateTransition queue old (Send Data now size eliciting largest contents frames) (Ok answer) new =
      subst (λ (there : SpaceId). StateTransition queue old (Send there now size eliciting largest contents frames)
      (Ok answer) new) is_data changes in
      ap (λ (recovery : RecoveryState K P M). only_pto recovery after) is_here
      ∙ ap (λ (variables : Variables). only_pto new variables) is_after ∙ only_varied new variables elicits time
      ∙ still_only queue variables old new now size eliciting largest contents frames answer changes ∙ only pto at
