-- The steps of a sender extend the pasts that explain its marks.
use Rattle.std.proofs.Common.{◌≡◌, ◌≢◌, ℕ, Bool, true, false, List, [], ◌∷◌, ◌++◌, Option, None, Some, Ok, inl, inr, refl, sym, ap, subst, ◌∙◌}
use Rattle.std.proofs.lemmas.List.{append_assoc}
use Rattle.std.specs.Prelude.{if◌then◌else◌}
use Rattle.rand_core.specs.Stream.{Stream}
use Rattle.recovery_base.specs.declared.below.SpaceId.{SpaceId}
use Rattle.recovery_congestion.specs.Controllers.{ControllerSemantics}
use Rattle.recovery_events.specs.declared.event.Event.{Event}
use Rattle.recovery_events.specs.declared.event.Event.TheVariants.{Sample}
use Rattle.recovery_paths.specs.declared.path_pair.PathName.TheVariants.{Current}
use Rattle.recovery_paths.specs.PathStates.{PathMarks}
use Rattle.recovery_spaces.specs.Discarded.{is_discarded}
use Rattle.recovery_spaces.specs.Spaces.{space_of, with_space}
use Rattle.recovery_history.specs.CallerState.{with_loss_time, with_loss_time_at, with_marks_at}
use Rattle.recovery_history.specs.declared.config.RecoveryConfig.{RecoveryConfig}
use Rattle.recovery_history.specs.History.{Beginning, History, QueueModel, Reply, begins}
use Rattle.recovery_history.specs.Reachability.{ReachedBy}
use Rattle.recovery_history.specs.RecoveryState.{RecoveryState}
use Rattle.recovery_history.proofs.LossTimeLaws.{reached_with_loss_time}
use Rattle.recovery_sender.specs.Acking.{first_marked, marks_now}
use Rattle.recovery_sender.specs.Promises.Extended.{MarkNoPath, StepsExtendPasts}
use Rattle.recovery_sender.specs.Promises.Samples.{ExplainsMarks, IsMarkable}
use Rattle.recovery_sender.specs.Spaces.{space_in}
use Rattle.recovery_sender.specs.Steps.{SenderStep, StepsLeadTo, loss_time, marked, occurs, told}
use Rattle.recovery_sender.proofs.BoundLaws.{loss_time_paths}
use Rattle.recovery_sender.proofs.SampleLaws.{estimated, event_explains_state, first_explains}

module _ {F K Q S M P : Type 0} (beginning : Beginning F K Q S M P) (past : History Q S M P)
    (recovery : RecoveryState K P M) (came : ReachedBy beginning past recovery) where
  pub loss_time_reached : (space : SpaceId) (time : Option ℕ) (gone : Bool)
      → ReachedBy beginning past (if gone then recovery else record recovery {
        spaces = with_space recovery.spaces space (with_loss_time time (space_of space recovery.spaces));
      })
  loss_time_reached space time true = came
  loss_time_reached space time false =
      reached_with_loss_time beginning past space time (space_of space recovery.spaces) recovery refl came

  pub marks_reached : (marks : PathMarks) → ReachedBy beginning past (with_marks_at Current marks recovery)
  marks_reached marks = let left = came.state_after in record {
    replies = came.replies;
    state_after = record {
      settings = left.settings;
      spaces = left.spaces;
      beside = left.beside;
      discarded = left.discarded;
      skipping = left.skipping;
      paths = left.paths;
      peer_limit = left.peer_limit;
      in_flight = record { current = left.in_flight.current; previous = left.in_flight.previous };
      frequency = left.frequency;
      timers = left.timers;
      remote_ids = left.remote_ids;
      local_ids = left.local_ids;
    };
    small = came.small;
  }

module _ {F K Q S M P : Type 0} (built : F → ℕ → ℕ → K) (words : ControllerSemantics K)
    (queue : QueueModel Q S M P) (config : RecoveryConfig F) (start : ℕ) (random : Stream) where
  abbrev beginning : Beginning F K Q S M P
  beginning = begins built words queue config start random

  abbrev Goes : History Q S M P → RecoveryState K P M → Type 0
  Goes past new = (events : History Q S M P) × ReachedBy beginning (events ++ past) new
      × ExplainsMarks new.paths (events ++ past)

  -- after one event more
  behind : (event : Event Q S M P) (reply : Reply Q) (past : History Q S M P) (new : RecoveryState K P M)
      → Goes ((event, reply) ∷ past) new → Goes past new
  behind event reply past new (events, came, explains) =
      let same = append_assoc events ((event, reply) ∷ []) past in (
        events ++ (event, reply) ∷ [],
        subst (λ (history : History Q S M P). ReachedBy beginning history new) (sym same) came,
        subst (λ (history : History Q S M P). ExplainsMarks new.paths history) (sym same) explains,
      )

  unmarked : (steps : List (SenderStep Q S M P)) (old new : RecoveryState K P M) → MarkNoPath steps
      → StepsLeadTo built words queue steps old new → (past : History Q S M P) → ReachedBy beginning past old
      → ExplainsMarks old.paths past → Goes past new
  unmarked [] old new none leads past came explains = (
    [],
    subst (λ (at : RecoveryState K P M). ReachedBy beginning past at) (sym leads) came,
    subst (λ (at : RecoveryState K P M). ExplainsMarks at.paths past) (sym leads) explains,
  )
  unmarked (told event reply ∷ steps) old new none leads past came explains =
      let one = leads.2 config start random past came in
      behind event reply past new (unmarked steps leads.0 new none leads.3 ((event, reply) ∷ past) one.came
      (event_explains_state beginning past old leads.0 event reply came one.came leads.1.marks explains))
  unmarked (occurs event ∷ steps) old new none leads past came explains =
      let one = leads.3 config start random past came in
      behind event (Ok leads.0) past new (unmarked steps leads.1 new none leads.4 ((event, Ok leads.0) ∷ past) one.came
      (event_explains_state beginning past old leads.1 event (Ok leads.0) came one.came leads.2.marks explains))
  unmarked (loss_time space time ∷ steps) old new none leads past came explains =
      unmarked steps (with_loss_time_at space time old) new none leads past
      (loss_time_reached beginning past old came space time (is_discarded space old.discarded))
      (subst (λ paths. ExplainsMarks paths past) (sym (loss_time_paths space time old)) explains)
  unmarked (marked marks ∷ steps) old new none leads past came explains = absurd none

  may_mark : (marks : PathMarks) (old new : RecoveryState K P M) → IsMarkable old marks.first_after_sample
      → new ≡ with_marks_at Current marks old → (past : History Q S M P) → ReachedBy beginning past old
      → ExplainsMarks old.paths past → Goes past new
  may_mark marks old new may is past came explains = (
    [],
    subst (λ (at : RecoveryState K P M). ReachedBy beginning past at) (sym is)
        (marks_reached beginning past old came marks),
    subst (λ (at : RecoveryState K P M). ExplainsMarks at.paths past) (sym is)
        (first_explains beginning past old came marks.first_after_sample may explains, explains.1),
  )

  -- the next packet is marked, if none was
  first_next : (space : SpaceId) (first : Option (SpaceId × ℕ)) (old new : RecoveryState K P M) (gone : Bool)
      → is_discarded space old.discarded ≡ gone → old.paths.current.state.rtt.smoothed ≢ None
      → StepsLeadTo {Q = Q} {S = S} built words queue (first_marked old space first (space_in old space)) old new
      → (past : History Q S M P) → ReachedBy beginning past old → ExplainsMarks old.paths past → Goes past new
  first_next space (Some mark) old new gone is some leads past came explains =
      unmarked [] old new tt leads past came explains
  first_next space None old new true is some leads past came explains =
      unmarked [] old new tt (rw is at leads) past came explains
  first_next space None old new false is some leads past came explains =
      may_mark _ old new (inr (space, refl, some)) (rw is at leads) past came explains

  onto : (events : History Q S M P) (past : History Q S M P) (new : RecoveryState K P M) → Goes (events ++ past) new
      → Goes past new
  onto events past new (more, came, explains) =
      let same = append_assoc more events past in (
        more ++ events,
        subst (λ (history : History Q S M P). ReachedBy beginning history new) (sym same) came,
        subst (λ (history : History Q S M P). ExplainsMarks new.paths history) (sym same) explains,
      )

module _ {F K Q S M P : Type 0} (built : F → ℕ → ℕ → K) (words : ControllerSemantics K)
    (queue : QueueModel Q S M P) where
  pub steps_extend_pasts : StepsExtendPasts built words queue
  steps_extend_pasts = record {
    unmarked = λ steps old new none leads config start random past came explains.
        unmarked built words queue config start random steps old new none leads past came explains;
    kept = λ marks old new same leads config start random past came explains.
        may_mark built words queue config start random marks old new (inl same) leads past came explains;
    sampled = λ space delay rtt old between new samples marks config start random past came explains.
        samples_extend config start random space delay rtt old between new samples marks past came explains;
  }
    where
      samples_extend : (config : RecoveryConfig F) (start : ℕ) (random : Stream) (space : SpaceId) (delay rtt : ℕ)
          (old between new : RecoveryState K P M)
          → StepsLeadTo built words queue (occurs (Sample delay rtt) ∷ []) old between
          → StepsLeadTo {Q = Q} {S = S} built words queue (first_marked between space
          (marks_now between).first_after_sample (space_in between space)) between new
          → (past : History Q S M P) → ReachedBy (begins built words queue config start random) past old
          → ExplainsMarks old.paths past → Goes built words queue config start random past new
      samples_extend config start random space delay rtt old between new samples marks past came explains =
          let one = unmarked built words queue config start random (occurs (Sample delay rtt) ∷ []) old between tt
          samples past came explains in
          let some : between.paths.current.state.rtt.smoothed ≢ None =
          λ none. estimated queue old samples.1 delay rtt samples.0 samples.2
          (sym (ap (λ (at : RecoveryState K P M). at.paths.current.state.rtt.smoothed) samples.4) ∙ none) in
          onto built words queue config start random one.0 past new (first_next built words queue config start random
          space (marks_now between).first_after_sample between new (is_discarded space between.discarded) refl some
          marks (one.0 ++ past) one.1 one.2)
