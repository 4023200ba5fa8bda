-- The loss detection timer: its inputs, and that setting it changes none of them.
use Rattle.std.proofs.Common.{◌≡◌, ℕ, true, false, Bool, [], ◌∷◌, Option, None, Some, option_map, Ok, Err, ◌||◌, IsTrue, ◌⊎◌, refl, ap, subst, inl, inr, ◌∙◌}
use Rattle.std.specs.Bool.{Decides, one_answer}
use Rattle.recovery_base.specs.declared.below.SpaceId.{SpaceId}
use Rattle.recovery_base.specs.declared.below.SpaceId.TheVariants.{Initial, Handshake, Data}
use Rattle.recovery_base.specs.declared.timer.Timer.TheVariants.{LossDetection}
use Rattle.recovery_base.specs.Timers.{moment}
use Rattle.recovery_congestion.specs.Controllers.{ControllerSemantics}
use Rattle.recovery_spaces.specs.declared.discarded.DiscardedSpaces.{DiscardedSpaces}
use Rattle.recovery_spaces.specs.Packets.{Packets, HasEliciting}
use Rattle.recovery_spaces.specs.Spaces.{Space, Spaces, space_of}
use Rattle.recovery_paths.specs.PathLog.{PerPath, PathReplyInputs, paths_known}
use Rattle.recovery_paths.specs.PathStates.{PathState}
use Rattle.recovery_events.specs.declared.event.Answer.{Answer}
use Rattle.recovery_events.specs.declared.event.Answer.TheVariants.{Done}
use Rattle.recovery_events.specs.declared.event.Event.{Event}
use Rattle.recovery_events.specs.declared.event.Refusal.{Refusal}
use Rattle.recovery_events.specs.declared.event.Refusal.TheVariants.{NoMemory}
use Rattle.recovery_history.specs.PartReplies.{AnswersDone}
use Rattle.recovery_history.specs.History.{QueueModel}
use Rattle.recovery_history.specs.RecoveryState.{RecoveryState}
use Rattle.recovery_history.specs.Unlogged.{UnloggedState}
use Rattle.quic_recovery.specs.declared.driver.Recovery.{Recovery}
use Rattle.recovery_history.specs.Reachability.{StepFromAnyPast}
use Rattle.recovery_history.specs.Transitions.{StateTransition}
use Rattle.quic_recovery.specs.State.{ReadOnlyTransition}
use Rattle.recovery_losses.specs.declared.due.Due.{Due}
use Rattle.recovery_losses.specs.declared.variables.Variables.{Variables}
use Rattle.recovery_sender.specs.Steps.{StepsLeadTo, told, timed, timer_event}
use Rattle.recovery_sender.specs.Timer.{due_of, has_eliciting, only_pto, IsOnlyPto, TimerIsSet}

-- ---- ack-eliciting packets

either_decided : (P : Type 0) (one rest : Bool) → Decides rest P → Decides (one || rest) (IsTrue one ⊎ P)
either_decided P true rest decides = (λ yes. inl refl, λ either. refl)
either_decided P false rest decides = (λ yes. inr (decides.0 yes), only_rest)
  where
    only_rest : IsTrue false ⊎ P → rest ≡ true
    only_rest (inl never) = absurd cc
    only_rest (inr there) = decides.1 there

eliciting_decided : {P M : Type 0} (packets : Packets P M) → Decides (has_eliciting packets) (HasEliciting packets)
eliciting_decided [] = (λ yes. absurd cc, λ none. absurd none)
eliciting_decided (entry ∷ packets) = either_decided _ entry.1.ack_eliciting _ (eliciting_decided packets)

pub eliciting_found : {P M : Type 0} (packets : Packets P M) (found : Bool) → Decides found (HasEliciting packets)
    → found ≡ has_eliciting packets
eliciting_found packets found decides = one_answer found _ decides (eliciting_decided packets)

-- ---- what is due depends on the spaces, on which of them are discarded, and on the path in use

abbrev Seen : (K P M : Type 0) → Type 0
Seen K P M = Spaces P M × DiscardedSpaces × PathState K

abbrev seen_in : {K P M : Type 0} → RecoveryState K P M → Seen K P M
seen_in recovery = (recovery.spaces, recovery.discarded, recovery.paths.current.state)

abbrev with_seen : {K P M : Type 0} → RecoveryState K P M → Seen K P M → RecoveryState K P M
with_seen recovery seen = record recovery {
  spaces = seen.0;
  discarded = seen.1;
  paths = record recovery.paths { current = record recovery.paths.current { state = seen.2 } };
}

due_same : {K P M : Type 0} (variables : Variables) (old new : RecoveryState K P M) → seen_in new ≡ seen_in old
    → due_of new variables ≡ due_of old variables
due_same {K} {P} {M} variables old new same = ap (λ (seen : Seen K P M). due_of (with_seen old seen) variables) same

pto_same : {K P M : Type 0} (variables : Variables) (old new : RecoveryState K P M) → seen_in new ≡ seen_in old
    → only_pto new variables ≡ only_pto old variables
pto_same {K} {P} {M} variables old new same =
    ap (λ (seen : Seen K P M). only_pto (with_seen old seen) variables) same

seen_of : {K P M : Type 0} → Space P M → Space P M → Space P M → DiscardedSpaces → PathState K → Seen K P M
seen_of initial handshake one_rtt discarded state =
    (record { initial = initial; handshake = handshake; «data» = one_rtt }, discarded, state)

-- ---- the timer is set

-- events that always succeed
never_refused : (Q : Type 0) (refusal : Refusal) → AnswersDone {Q = Q} (Err refusal) → ⊥
never_refused Q NoMemory done = done
never_refused Q refusal done = done

pub timer_answered : {F Q R C K S M P : Type 0} {f : _} {c : _} {q : _} {m : _} {r : _}
    (recovery : Recovery F Q R C K S M P f c q m r) (due : Option (ℕ × Due)) (event : Event Q S M P)
    → event ≡ timer_event due → (refusal : Refusal) → ReadOnlyTransition event recovery (Err refusal) → ⊥
timer_answered {Q = Q} {S = S} {M = M} {P = P} recovery None event is refusal refused = never_refused Q refusal
    (subst (λ (event : Event Q S M P). ReadOnlyTransition event recovery (Err refusal)) is refused)
timer_answered {Q = Q} {S = S} {M = M} {P = P} recovery (Some due) event is refusal refused = never_refused Q refusal
    (subst (λ (event : Event Q S M P). ReadOnlyTransition event recovery (Err refusal)) is refused)

module _ {K Q S M P : Type 0} (queue : QueueModel Q S M P) (old new : RecoveryState K P M) where
  seen_stays : ((space : SpaceId) → space_of space new.spaces ≡ space_of space old.spaces)
      → new.discarded ≡ old.discarded → paths_known new.paths ≡ paths_known old.paths → seen_in new ≡ seen_in old
  unfolding seen_of
  seen_stays spaces discarded paths =
      let initial = spaces Initial in let handshake = spaces Handshake in let one_rtt = spaces Data in
      let state : new.paths.current.state ≡ old.paths.current.state =
      ap (λ (known : PerPath (PathReplyInputs K)). known.current.state) paths in
      let same : seen_of new.spaces.initial new.spaces.handshake new.spaces.«data» new.discarded
      new.paths.current.state
      ≡ seen_of old.spaces.initial old.spaces.handshake old.spaces.«data» old.discarded old.paths.current.state = cc in
      same

  seen_by_timer : (due : Option (ℕ × Due)) (answer : Answer Q) → StateTransition queue old (timer_event due)
      (Ok answer) new
      → seen_in new ≡ seen_in old
  seen_by_timer None answer changes =
      seen_stays changes.steps.spaces (ap (λ (plain : UnloggedState). plain.discarded) changes.plain.1)
      changes.steps.paths
  seen_by_timer (Some due) answer changes =
      seen_stays changes.steps.spaces (ap (λ (plain : UnloggedState). plain.discarded) changes.plain.1)
      changes.steps.paths

  set_by_timer : (due : Option (ℕ × Due)) (answer : Answer Q) → StateTransition queue old (timer_event due)
      (Ok answer) new
      → moment LossDetection new.timers ≡ option_map (λ due. due.0) due
  set_by_timer None answer changes = changes.plain.0 LossDetection
  set_by_timer (Some due) answer changes = changes.plain.0 LossDetection

  done_by_timer : (due : Option (ℕ × Due)) (answer : Answer Q) → StateTransition queue old (timer_event due)
      (Ok answer) new
      → answer ≡ Done
  done_by_timer None answer changes = changes.told
  done_by_timer (Some due) answer changes = changes.told

module _ {F K Q S M P : Type 0} (built : F → ℕ → ℕ → K) (words : ControllerSemantics K) (queue : QueueModel Q S M P)
    (variables : Variables) (old new : RecoveryState K P M) (answer : Answer Q) where
  set_now : StateTransition queue old (timer_event (due_of old variables)) (Ok answer) new
      → StepFromAnyPast built words queue old (timer_event (due_of old variables)) (Ok answer) new
      → (StateTransition queue old (timer_event (due_of new variables)) (Ok Done) new
      × StepFromAnyPast built words queue old (timer_event (due_of new variables)) (Ok Done) new)
      × TimerIsSet new variables
  set_now changes extends =
      let due = due_of old variables in
      let same : due_of new variables ≡ due =
      due_same variables old new (seen_by_timer queue old new due answer changes) in
      rw same (
        subst (λ (given : Answer Q). StateTransition queue old (timer_event due) (Ok given) new
            × StepFromAnyPast built words queue old (timer_event due) (Ok given) new)
            (done_by_timer queue old new due answer changes) (changes, extends),
        set_by_timer queue old new due answer changes,
      )

module _ {F K Q S M P : Type 0} (built : F → ℕ → ℕ → K) (words : ControllerSemantics K) (queue : QueueModel Q S M P)
    (variables : Variables) (old : RecoveryState K P M) (answer : Answer Q) where
  -- the only probe timeout that may be due still is
  pub still_only : (new : RecoveryState K P M) (known : Option ℕ)
      → StepsLeadTo built words queue (told (timer_event (due_of old variables)) (Ok answer) ∷ []) old new
      → IsOnlyPto old variables known → IsOnlyPto new variables known
  still_only new known (between, changes, extends, is) only = λ pto at.
      rw is (pto_same variables old between (seen_by_timer queue old between (due_of old variables) answer changes)
      ∙ only pto at)

  -- once it is set to what is due, it is set to what is due then
  pub timer_sets : (new : RecoveryState K P M)
      → StepsLeadTo built words queue (told (timer_event (due_of old variables)) (Ok answer) ∷ []) old new
      → StepsLeadTo built words queue (timed (due_of new variables) ∷ []) old new × TimerIsSet new variables
  timer_sets new (between, changes, extends, is) =
      let now = set_now built words queue variables old between answer changes extends in
      rw is ((between, now.0.0, now.0.1, refl), now.1)
