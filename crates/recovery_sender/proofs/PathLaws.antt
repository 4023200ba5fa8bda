-- A change of the path in use: its events, and that a validated path is kept.
use Rattle.std.proofs.Common.{◌≡◌, ◌⊎◌, ◌++◌, ◌&&◌, not, ℕ, Bool, true, false, true≢false, [], ◌∷◌, Option, None, Some, Ok, Err, inl, inr, refl, sym, ap, subst, ◌∙◌}
use Rattle.std.specs.Prelude.{option_map}
use Rattle.std.specs.Option.{ForSome, option_map_or}
use Rattle.std.specs.declared.net.socket_addr.SocketAddr.{SocketAddr}
use Rattle.recovery_base.specs.declared.below.SpaceId.{SpaceId}
use Rattle.recovery_base.specs.declared.below.SpaceId.TheVariants.{Initial, Handshake, Data}
use Rattle.recovery_congestion.specs.Controllers.{ControllerSemantics}
use Rattle.recovery_events.specs.declared.event.Answer.{Answer}
use Rattle.recovery_events.specs.declared.event.Answer.TheVariants.{Done}
use Rattle.recovery_events.specs.declared.event.Event.{Event}
use Rattle.recovery_events.specs.declared.event.Event.TheVariants.{NewPath, ResetPath, RevertPath, Validated}
use Rattle.recovery_paths.specs.declared.path_pair.PathName.TheVariants.{Current, Previous}
use Rattle.recovery_paths.specs.PathLog.{PathHistory, PathReplyInputs, PerPath, known_following, known_of, path_known, paths_known, returns, reverted}
use Rattle.recovery_paths.specs.PathMaking.{PathSettings}
use Rattle.recovery_paths.specs.PathStates.{Path}
use Rattle.recovery_history.specs.CallerState.{with_loss_time_at}
use Rattle.recovery_history.specs.History.{Beginning, History, QueueModel, Reply, queue_model}
use Rattle.recovery_history.specs.PartReplies.{AnswersDone, UnlessPathMissing}
use Rattle.recovery_history.specs.Promises.Datagrams.{datagrams_on, is_validated}
use Rattle.recovery_history.specs.Reachability.{ReachedBy}
use Rattle.recovery_history.specs.RecoveryState.{RecoveryState}
use Rattle.recovery_history.specs.RepliesAfter.{RepliesAfter, pasts_of}
use Rattle.recovery_history.specs.Transitions.{StateTransition}
use Rattle.recovery_history.proofs.DatagramLaws.{Flow, FlowsAgree, IsFlowWhereLives, flow_of, flows_after, flows_at_first}
use Rattle.recovery_history.proofs.Runs.{kept_after}
use Rattle.recovery_losses.specs.declared.due.Due.{Due}
use Rattle.recovery_losses.specs.declared.variables.Variables.{Variables}
use Rattle.recovery_losses.specs.Variables.{is_server}
use Rattle.recovery_sender.specs.declared.sender.Sender.{Sender}
use Rattle.recovery_sender.specs.Calls.{ChangesRtt, changes_path, renewing}
use Rattle.recovery_sender.specs.PathChanges.{IsFailedEvent, IsPathPermitted, LeavesPath, SwitchesPath, is_last_validated_previous, is_previous_validated, moving, path_steps, validating}
use Rattle.recovery_sender.specs.Promises.KeepsValidated.{HasValidatedPath, IsValidatedBy, KeepsValidated, ReturnsToValidated}
use Rattle.recovery_sender.specs.Senders.{state_in}
use Rattle.recovery_sender.specs.Steps.{StepsLeadTo, TakesSteps, RearmsTimer, timed, told}
use Rattle.recovery_sender.specs.Timer.{due_of}
use Rattle.recovery_sender.proofs.BoundLaws.{loss_time_paths}
use Rattle.recovery_sender.proofs.StepLaws.{goes_on, told_changes}

-- ---- what a return changes

-- a return is answered `Done`
returned_done : {K Q : Type 0} (previous : Option (PathReplyInputs K)) (answer : Answer Q)
    → UnlessPathMissing previous (λ there. AnswersDone {Q = Q}) (Ok answer) → answer ≡ Done
returned_done None answer said = absurd said.1
returned_done (Some path) answer said = said

module _ {K : Type 0} (change : PathReplyInputs K → PathReplyInputs K) (current : PathReplyInputs K) (made : ℕ) where
  abbrev old_paths : Option (PathReplyInputs K) → PerPath (PathReplyInputs K)
  old_paths previous = record { current = current; previous = previous; made = made }

  returned_made : (previous : Option (PathReplyInputs K)) → (reverted change (old_paths previous)).made ≡ made
  returned_made None = refl
  returned_made (Some path) = refl

module _ {K Q S M P : Type 0} (queue : QueueModel Q S M P) (answer : Answer Q) (old new : RecoveryState K P M)
    (changes : StateTransition queue old RevertPath (Ok answer) new) where
  -- it makes no path
  made_kept : new.paths.made ≡ old.paths.made
  made_kept = ap (λ (paths : PerPath (PathReplyInputs K)). paths.made) changes.steps.paths
      ∙ returned_made (known_following old.settings (returns old.peer_limit)) (path_known old.paths.current)
      old.paths.made (option_map path_known old.paths.previous)

  -- the path in use has the controller of the previous one
  controller_kept : (k : K) → ForSome old.paths.previous (λ path. k ≡ path.state.controller)
      → is_previous_validated old ≡ true → k ≡ new.paths.current.state.controller
  controller_kept k copies = by old.paths.previous refl
    where
      by : (previous : Option (Path K)) → old.paths.previous ≡ previous
          → option_map_or (λ path. path.state.validated) previous false ≡ true
          → k ≡ new.paths.current.state.controller
      by None none never = absurd (true≢false (sym never))
      by (Some path) is there = copies path is
          ∙ sym (ap (λ (paths : PerPath (PathReplyInputs K)). paths.current.state.controller) (rw is
          at changes.steps.paths))

module _ {F Q R C K S M P : Type 0} {f : _} {c : _} {q : _} {m : _} {r : _}
    (old between new : Sender F Q R C K S M P f c q m r) where
  pub went_back : (answer : Answer Q) → TakesSteps (told RevertPath (Ok answer) ∷ []) old new
      → TakesSteps (told RevertPath (Ok Done) ∷ []) old new
  went_back answer goes =
      subst (λ (a : Answer Q). TakesSteps (told RevertPath (Ok a) ∷ []) old new)
      (returned_done (option_map path_known (state_in old).paths.previous) answer goes.leads.1.told) goes

  -- there is room for another path after it, if there was before
  pub back_made : TakesSteps (told RevertPath (Ok Done) ∷ []) old new
      → (state_in new).paths.made ≡ (state_in old).paths.made
  back_made goes =
      made_kept (queue_model q.contents q.words q.blank) Done (state_in old) (state_in new)
      (told_changes RevertPath (Ok Done) old new goes)

  pub back_controller : TakesSteps (told RevertPath (Ok Done) ∷ []) old new → (k : K)
      → ForSome (state_in old).paths.previous (λ path. k ≡ path.state.controller)
      → is_previous_validated (state_in old) ≡ true → k ≡ (state_in new).paths.current.state.controller
  back_controller goes = controller_kept (queue_model q.contents q.words q.blank) Done (state_in old) (state_in new)
      (told_changes RevertPath (Ok Done) old new goes)

  -- ---- the events of a call

  pub moves_after : (event : Event Q S M P) (answer : Answer Q)
      → TakesSteps (told RevertPath (Ok Done) ∷ []) old between
      → TakesSteps (told event (Ok answer) ∷ []) between new → TakesSteps (moving true event answer) old new
  moves_after event answer back goes =
      goes_on (told RevertPath (Ok Done) ∷ []) (told event (Ok answer) ∷ []) old between new back goes

  pub moves_on : (steps : Bool) (event : Event Q S M P) (answer : Answer Q)
      → TakesSteps (moving steps event answer) old between
      → TakesSteps (validating (is_server between.variables.side)) between new
      → TakesSteps (moving steps event answer ++ validating (is_server old.variables.side)) old new
  moves_on steps event answer goes later =
      goes_on (moving steps event answer) (validating (is_server old.variables.side)) old between new goes
      (subst (λ (kept : Variables). TakesSteps (validating (is_server kept.side)) between new) goes.variables later)

  -- without a return
  pub left_alone : (event : Event Q S M P) → is_last_validated_previous (state_in old) ≡ false → (reply : Reply Q)
      → TakesSteps (told event reply ∷ []) old new → LeavesPath event old new reply
  left_alone event alone (Ok answer) goes =
      subst (λ (moves : Bool). TakesSteps (moving moves event answer) old new) (sym alone) goes
  left_alone event alone (Err refusal) goes =
      subst (λ (moves : Bool). IsFailedEvent event old new refusal moves) (sym alone) goes

  -- an event that neither makes a path nor returns to one
  pub switched : (event : Event Q S M P)
      → ((now : ℕ) (remote : SocketAddr) (is_fresh : Bool) → event ≡ NewPath now remote is_fresh → ⊥)
      → (event ≡ RevertPath → ⊥) → (reply : Reply Q) → TakesSteps (told event reply ∷ []) old new
      → SwitchesPath event old new reply
  switched (NewPath now remote is_fresh) moves back reply goes = absurd (moves now remote is_fresh refl)
  switched RevertPath moves back reply goes = absurd (back refl)
  switched event moves back (Ok answer) goes = (tt, goes)
  switched event moves back (Err refusal) goes = goes

-- ---- validated paths, as the inputs have them

module _ {K : Type 0} where
  abbrev current_known : PerPath (PathReplyInputs K) → Bool
  current_known paths = paths.current.state.validated

  abbrev previous_known : PerPath (PathReplyInputs K) → Bool
  previous_known paths = option_map_or (λ path. path.state.validated) paths.previous false

  abbrev HasValidated : PerPath (PathReplyInputs K) → Type 0
  HasValidated paths = (current_known paths ≡ true) ⊎ (previous_known paths ≡ true)

  same_previous : (previous : Option (Path K)) → option_map_or (λ path. path.state.validated) previous false
      ≡ option_map_or (λ path. path.state.validated) (option_map path_known previous) false
  same_previous None = refl
  same_previous (Some path) = refl

  after_return : (settings : PathSettings K) (limit : Option ℕ) (old new : PerPath (PathReplyInputs K))
      → new ≡ reverted (known_following settings (returns limit)) old → previous_known old ≡ true
      → current_known new ≡ true
  after_return settings limit old new is = by old.previous refl
    where
      by : (previous : Option (PathReplyInputs K)) → old.previous ≡ previous
          → option_map_or (λ path. path.state.validated) previous false ≡ true → current_known new ≡ true
      by None none never = absurd (true≢false (sym never))
      by (Some path) found there = ap current_known (rw found at is) ∙ there

module _ {K P M : Type 0} (recovery : RecoveryState K P M) where
  known_validated : HasValidatedPath recovery → HasValidated (paths_known recovery.paths)
  known_validated (inl here) = inl here
  known_validated (inr there) = inr (sym (same_previous recovery.paths.previous) ∙ there)

  validated_known : HasValidated (paths_known recovery.paths) → HasValidatedPath recovery
  validated_known (inl here) = inl here
  validated_known (inr there) = inr (same_previous recovery.paths.previous ∙ there)

-- the previous path is the last validated one, or the one in use is validated
previous_there : (here there : Bool) → (not here && there) ≡ true → there ≡ true
previous_there true there is = absurd cc
previous_there false there is = is

current_there : (here there : Bool) → (not here && there) ≡ false → (here ≡ true) ⊎ (there ≡ true) → here ≡ true
current_there true there is has = refl
current_there false there is (inl never) = absurd (true≢false (sym never))
current_there false there is (inr found) = absurd (true≢false (sym found ∙ is))

-- ---- each event of a call

module _ {K Q S M P : Type 0} (queue : QueueModel Q S M P) (old new : RecoveryState K P M) where
  abbrev Has : RecoveryState K P M → Type 0
  Has recovery = HasValidated (paths_known recovery.paths)

  return_leads : (answer : Answer Q) → StateTransition queue old RevertPath (Ok answer) new
      → is_previous_validated old ≡ true → new.paths.current.state.validated ≡ true
  return_leads answer changes there =
      after_return old.settings old.peer_limit (paths_known old.paths) (paths_known new.paths) changes.steps.paths
      (sym (same_previous old.paths.previous) ∙ there)

  move_leads : (now : ℕ) (remote : SocketAddr) (is_fresh : Bool) (answer : Answer Q)
      → StateTransition queue old (NewPath now remote is_fresh) (Ok answer) new
      → old.paths.current.state.validated ≡ true → Has new
  move_leads now remote is_fresh answer changes here = inr (ap previous_known changes.steps.paths ∙ here)

  validation_leads : (answer : Answer Q) → StateTransition queue old (Validated Current) (Ok answer) new → Has new
  validation_leads answer changes = inl (ap current_known changes.steps.paths)

  reset_leads : (now : ℕ) (answer : Answer Q) → StateTransition queue old (ResetPath now) (Ok answer) new → Has old
      → Has new
  reset_leads now answer changes (inl here) = inl (ap current_known changes.steps.paths ∙ here)
  reset_leads now answer changes (inr there) = inr (ap previous_known changes.steps.paths ∙ there)

-- ---- all events of a call

module _ {F K Q S M P : Type 0} (built : F → ℕ → ℕ → K) (words : ControllerSemantics K)
    (queue : QueueModel Q S M P) (old new : RecoveryState K P M) where
  abbrev Holds : RecoveryState K P M → Type 0
  Holds recovery = HasValidated (paths_known recovery.paths)

  moving_keeps : (moves server : Bool) → is_last_validated_previous old ≡ moves → (now : ℕ) (remote : SocketAddr)
      (is_fresh : Bool) (answer : Answer Q)
      → StepsLeadTo built words queue (moving moves (NewPath now remote is_fresh) answer ++ validating server) old new
      → HasValidatedPath old → Holds new
  moving_keeps true true is now remote is_fresh answer leads has = let second = leads.3 in
      subst Holds (sym second.3) (move_leads queue leads.0 second.0 now remote is_fresh answer second.1
      (return_leads queue old leads.0 Done leads.1 (previous_there _ _ is)))
  moving_keeps true false is now remote is_fresh answer leads has = let last = leads.3.3 in
      subst Holds (sym last.3) (validation_leads queue leads.3.0 last.0 Done last.1)
  moving_keeps false true is now remote is_fresh answer leads has =
      subst Holds (sym leads.3) (move_leads queue old leads.0 now remote is_fresh answer leads.1
      (current_there _ _ is has))
  moving_keeps false false is now remote is_fresh answer leads has = let last = leads.3 in
      subst Holds (sym last.3) (validation_leads queue leads.0 last.0 Done last.1)

  -- loss times and the timer leave the paths unchanged
  renewing_keeps : (times : SpaceId → Option ℕ) → StepsLeadTo built words queue (renewing times) old new
      → new.paths ≡ old.paths
  renewing_keeps times leads =
      let first : RecoveryState K P M = with_loss_time_at Initial (times Initial) old in
      let second : RecoveryState K P M = with_loss_time_at Handshake (times Handshake) first in
      ap (λ (recovery : RecoveryState K P M). recovery.paths) leads
      ∙ loss_time_paths Data (times Data) second ∙ loss_time_paths Handshake (times Handshake) first
      ∙ loss_time_paths Initial (times Initial) old

  timed_keeps : (due : Option (ℕ × Due)) → StepsLeadTo built words queue (timed due ∷ []) old new
      → paths_known new.paths ≡ paths_known old.paths
  timed_keeps None leads =
      ap (λ (recovery : RecoveryState K P M). paths_known recovery.paths) leads.3 ∙ leads.1.steps.paths
  timed_keeps (Some due) leads =
      ap (λ (recovery : RecoveryState K P M). paths_known recovery.paths) leads.3 ∙ leads.1.steps.paths

  rearmed_keeps : (kept : Variables) → RearmsTimer built words queue kept old new
      → paths_known new.paths ≡ paths_known old.paths
  rearmed_keeps kept (inl same) = ap (λ (recovery : RecoveryState K P M). paths_known recovery.paths) same.1
  rearmed_keeps kept (inr set) = timed_keeps (due_of new kept) set.1

-- ---- by the events so far

module _ {F K Q S M P : Type 0} (beginning : Beginning F K Q S M P) (past : History Q S M P)
    (recovery : RecoveryState K P M) (came : ReachedBy beginning past recovery) where
  flows : FlowsAgree beginning past
  flows = kept_after (RepliesAfter beginning) (FlowsAgree beginning) (flows_after beginning)
      (flows_at_first beginning) past came.replies

  current_by : recovery.paths.current.state.validated ≡ true → IsValidatedBy Current beginning past
  current_by here = ap (λ (f : Flow). f.validated) flows.0.0
      ∙ sym (ap current_known came.state_after.paths) ∙ here

  where_there : (validated : Bool) (here : History Q S M P) (there : Option (PathHistory K))
      → IsFlowWhereLives validated here (option_map flow_of there)
      → option_map_or (λ path. path.state.validated) (option_map known_of there) false ≡ true → validated ≡ true
  where_there validated here None same is = absurd (true≢false (sym is))
  where_there validated here (Some there) same is = ap (λ (f : Flow). f.validated) same.0 ∙ is

  previous_by : is_previous_validated recovery ≡ true → IsValidatedBy Previous beginning past
  previous_by there = where_there (is_validated beginning.config.validated Previous past)
      (datagrams_on Previous past) (pasts_of beginning past).previous flows.1
      (sym (same_previous recovery.paths.previous ∙ ap previous_known came.state_after.paths) ∙ there)

  one_by : HasValidatedPath recovery → IsValidatedBy Current beginning past ⊎ IsValidatedBy Previous beginning past
  one_by (inl here) = inl (current_by here)
  one_by (inr there) = inr (previous_by there)

-- ---- a call

module _ {F Q R C K S M P : Type 0} {f : _} {c : _} {q : _} {m : _} {r : _}
    (old between new : Sender F Q R C K S M P f c q m r) (kept : Variables) (changes : ChangesRtt kept between new)
  where
    rtt_keeps : paths_known (state_in new).paths ≡ paths_known (state_in between).paths
    rtt_keeps =
        rearmed_keeps f.built c.words (queue_model q.contents q.words q.blank) changes.does.between (state_in new) kept
        changes.does.sets
        ∙ ap (λ (recovery : RecoveryState K P M). paths_known recovery.paths) changes.does.leads
        ∙ ap paths_known (renewing_keeps f.built c.words (queue_model q.contents q.words q.blank) (state_in changes.set)
        (state_in changes.renewed) changes.renews.times changes.renews.goes.leads)
        ∙ ap (λ (recovery : RecoveryState K P M). paths_known recovery.paths) changes.same

    has_kept : HasValidated (paths_known (state_in between).paths) → HasValidatedPath (state_in new)
    has_kept has = validated_known (state_in new) (subst HasValidated (sym rtt_keeps) has)

    all_kept : (event : Event Q S M P)
        → (HasValidatedPath (state_in old) → HasValidated (paths_known (state_in between).paths))
        → ReturnsToValidated old new event → KeepsValidated old new event
    all_kept event keeps back = record {
      kept = λ has. has_kept (keeps has);
      by_events = λ has config start random past came. one_by _ past (state_in new) came (has_kept (keeps has));
      returns = back;
    }

    pub validated_kept : (event : Event Q S M P) (answer : Answer Q) → changes_path event ≡ true
        → IsPathPermitted event (state_in old)
        → TakesSteps (path_steps (state_in old) old.variables.side event answer) old between
        → KeepsValidated old new event
    validated_kept (NewPath now remote is_fresh) answer moves permitted goes =
        all_kept (NewPath now remote is_fresh) (moving_keeps f.built c.words
        (queue_model q.contents q.words q.blank) (state_in old) (state_in between)
        (is_last_validated_previous (state_in old)) (is_server old.variables.side) refl now remote is_fresh answer
        goes.leads) tt
    validated_kept (ResetPath now) answer moves permitted goes =
        all_kept (ResetPath now) (λ has. reset_leads (queue_model q.contents q.words q.blank) (state_in old)
        (state_in between) now answer (told_changes (ResetPath now) (Ok answer) old between goes)
        (known_validated (state_in old) has)) tt
    validated_kept RevertPath answer moves permitted goes =
        let here = return_leads (queue_model q.contents q.words q.blank) (state_in old) (state_in between) answer
        (told_changes RevertPath (Ok answer) old between goes) permitted in
        all_kept RevertPath (λ has. inl here) (λ config start random past came. current_by _ past (state_in new) came
        (ap current_known rtt_keeps ∙ here))
    validated_kept event answer moves permitted goes = absurd (true≢false (sym moves))
