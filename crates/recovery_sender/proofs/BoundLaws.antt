-- Every sender keeps its paths within bounds, and so satisfies the amplification limit by the events so far.
use Rattle.std.proofs.Common.{◌≡◌, ◌≤◌, ◌*◌, ℕ, max, true, false, Bool, [], Option, None, Some, ap, refl, sym, subst, ◌∙◌, arith}
use Rattle.std.proofs.lemmas.Option.{none-some}
use Rattle.std.specs.Prelude.{option_map, sum_by}
use Rattle.std.specs.Option.{ForSome}
use Rattle.recovery_base.specs.declared.below.SpaceId.{SpaceId}
use Rattle.recovery_congestion.specs.Calls.{ControllerCall, congestion_time}
use Rattle.recovery_congestion.specs.Controllers.{ControllerLaws, ControllerSemantics}
use Rattle.recovery_events.specs.declared.event.Event.{Event}
use Rattle.recovery_events.specs.declared.event.Event.TheVariants.{NewPath, ResetPath, Transmit, Congestion}
use Rattle.recovery_paths.specs.declared.path_pair.PathName.{PathName}
use Rattle.recovery_paths.specs.declared.path_pair.PathName.TheVariants.{Current, Previous}
use Rattle.recovery_paths.specs.PathBounds.{AreWithinBounds, IsThreefold}
use Rattle.recovery_paths.specs.PathLog.{PathHistory, PathReplyInputs, PerPath, each_path, known_of, path_state_of, paths_known}
use Rattle.recovery_paths.specs.PathStates.{Path, PathMarks}
use Rattle.recovery_paths.proofs.PathBoundLaws.{first_bounded}
use Rattle.recovery_spaces.specs.Discarded.{is_discarded}
use Rattle.recovery_history.specs.declared.config.RecoveryConfig.{RecoveryConfig}
use Rattle.recovery_history.specs.CallerState.{with_loss_time_at, with_marks_at}
use Rattle.recovery_history.specs.EventBounds.{StaysInBounds}
use Rattle.recovery_history.specs.History.{Beginning, History, Reply, begins, queue_model}
use Rattle.recovery_history.proofs.EventBoundLaws.{event_keeps_bounds}
use Rattle.recovery_history.specs.Promises.Datagrams.{bytes_in, bytes_out, datagrams_on, is_validated}
use Rattle.recovery_history.specs.Reachability.{ReachedBy}
use Rattle.recovery_history.specs.RecoveryState.{RecoveryState}
use Rattle.recovery_history.specs.RepliesAfter.{RepliesAfter, pasts_of, settings_of}
use Rattle.recovery_history.proofs.DatagramLaws.{Flow, FlowsAgree, IsFlowWhereLives, flow_by, flow_of, flows_after, flows_at_first}
use Rattle.recovery_history.proofs.Runs.{kept_after}
use Rattle.quic_recovery.specs.declared.driver.Recovery.{Recovery}
use Rattle.quic_recovery.specs.State.{begun, state_of, Transition}
use Rattle.recovery_sender.specs.declared.sender.Sender.{Sender}
use Rattle.recovery_sender.specs.Bounds.{ArePathsBounded, MakesPathEarly, latest_start}
use Rattle.recovery_sender.specs.Calls.{IsPassedThrough, backdated}
use Rattle.recovery_sender.specs.Promises.Amplification.{SendsThreefold}
use Rattle.recovery_sender.specs.Promises.Pasts.{ForEveryRun}
use Rattle.recovery_sender.specs.Senders.{state_in}

-- ---- the beginning

pub begins_in_bounds : {F K Q S M P : Type 0} (beginning : Beginning F K Q S M P)
    → ((call : ControllerCall) (k : K) → beginning.words.recovery_start (beginning.words.after call k)
    ≤ max (beginning.words.recovery_start k) (congestion_time call))
    → ((now : ℕ) → beginning.words.recovery_start ((settings_of beginning).built now) ≤ now)
    → beginning.start ≤ latest_start → (recovery : RecoveryState K P M) → ReachedBy beginning [] recovery
    → ArePathsBounded beginning.words recovery
begins_in_bounds {K = K} beginning moves_start starts early recovery came =
    subst (λ (paths : PerPath (PathReplyInputs K)). AreWithinBounds beginning.words latest_start paths)
    (sym came.state_after.paths) (
      first_bounded (settings_of beginning) latest_start moves_start starts _ _ _ beginning.start early,
      λ found is. absurd (none-some found is),
    )

-- ---- the events of a call

-- an event that passes stays within bounds as it takes effect, if it makes a path early
pub passed_stays : {K P M Q S : Type 0} (recovery : RecoveryState K P M) (event : Event Q S M P)
    → IsPassedThrough event → MakesPathEarly (backdated event) → StaysInBounds latest_start recovery (backdated event)
passed_stays recovery (Transmit now bytes checked) passes early = absurd passes
passed_stays recovery (Congestion now sent persistent bytes) passes early = absurd passes
passed_stays recovery (NewPath now remote is_fresh) passes early = early
passed_stays recovery (ResetPath now) passes early = early
passed_stays recovery event passes early = tt

-- a loss time changes no path
pub loss_time_paths : {K P M : Type 0} (space : SpaceId) (time : Option ℕ) (old : RecoveryState K P M)
    → (with_loss_time_at space time old).paths ≡ old.paths
loss_time_paths space time old = by (is_discarded space old.discarded) refl
  where
    by : (gone : Bool) → is_discarded space old.discarded ≡ gone → (with_loss_time_at space time old).paths ≡ old.paths
    by true is = rw is refl
    by false is = rw is refl

pub loss_time_keeps : {K P M : Type 0} (words : ControllerSemantics K) (space : SpaceId) (time : Option ℕ)
    (old new : RecoveryState K P M) → new ≡ with_loss_time_at space time old → ArePathsBounded words old
    → ArePathsBounded words new
loss_time_keeps {K = K} {P = P} {M = M} words space time old new is within =
    subst (λ (paths : PerPath (Path K)). AreWithinBounds words latest_start (paths_known paths))
    (sym (ap (λ (recovery : RecoveryState K P M). recovery.paths) is ∙ loss_time_paths space time old)) within

-- nor do marks
pub marks_keep : {K P M : Type 0} (words : ControllerSemantics K) (marks : PathMarks) (old new : RecoveryState K P M)
    → new ≡ with_marks_at Current marks old → ArePathsBounded words old → ArePathsBounded words new
marks_keep {K = K} {P = P} {M = M} words marks old new is within =
    subst (λ (recovery : RecoveryState K P M). ArePathsBounded words recovery) (sym is) within

module _ {F Q R C K S M P : Type 0} {f : _} {c : _} {q : _} {m : _} {r : _} {IsSound : K → Type 0} where
  pub recovery_keeps_bounds : (event : Event Q S M P) (reply : Reply Q)
      (old new : Recovery F Q R C K S M P f c q m r) (laws : ControllerLaws c.words IsSound)
      (starts : (factory : F) (now mtu : ℕ) → c.words.recovery_start (f.built factory now mtu) ≤ now)
      → StaysInBounds latest_start (state_of old) event → Transition event old reply new
      → ArePathsBounded c.words (state_of old) → ArePathsBounded c.words (state_of new)
  recovery_keeps_bounds event reply old new laws starts stays step within =
      (event_keeps_bounds (queue_model q.contents q.words q.blank) latest_start (state_of old).settings laws.start
      (λ now. starts old.transport.congestion_controller_factory now _) event reply
      (state_of old) (state_of new) stays step (refl, within)).1

  pub made_in_bounds : (made : Recovery F Q R C K S M P f c q m r) (config : RecoveryConfig F) (start : ℕ) (rng : R)
      (laws : ControllerLaws c.words IsSound)
      (starts : (factory : F) (now mtu : ℕ) → c.words.recovery_start (f.built factory now mtu) ≤ now)
      → start ≤ latest_start → ReachedBy (begun made config start rng) [] (state_of made)
      → ArePathsBounded c.words (state_of made)
  made_in_bounds made config start rng laws starts early came =
      begins_in_bounds (begun made config start rng) laws.start
      (λ now. starts config.transport.congestion_controller_factory now _) early
      (state_of made) came

-- ---- the amplification limit by events

module _ {F K Q S M P : Type 0} (beginning : Beginning F K Q S M P) where
  -- the bytes of a path by events are those in its state
  threefold_by : (validated : Bool) (here : History Q S M P) (past : PathHistory K)
      → flow_by validated here ≡ flow_of past → IsThreefold (path_state_of past) → validated ≡ false
      → sum_by bytes_out here ≤ 3 * sum_by bytes_in here
  threefold_by validated here past same within unvalidated =
      let flags = ap (λ (f : Flow). f.validated) same in
      let came = ap (λ (f : Flow). f.came) same in
      let went = ap (λ (f : Flow). f.went) same in
      rw (came, went) (within (sym flags ∙ unvalidated))

  where_there : (validated : Bool) (here : History Q S M P) (past : Option (PathHistory K))
      → IsFlowWhereLives validated here (option_map flow_of past)
      → ForSome (option_map known_of past) (λ there. IsThreefold there.state) → validated ≡ false
      → sum_by bytes_out here ≤ 3 * sum_by bytes_in here
  where_there validated here None none within unvalidated = rw none (omega arith)
  where_there validated here (Some past) flows within unvalidated =
      threefold_by validated here past flows.0 (within (known_of past) refl) unvalidated

  sends_threefold : (past : History Q S M P) (recovery : RecoveryState K P M) → ReachedBy beginning past recovery
      → ArePathsBounded beginning.words recovery → SendsThreefold beginning past
  sends_threefold past recovery came within =
      let flows = kept_after (RepliesAfter beginning) (FlowsAgree beginning) (flows_after beginning)
      (flows_at_first beginning) past came.replies in
      let bounds = subst (λ (paths : PerPath (PathReplyInputs K)). AreWithinBounds beginning.words latest_start paths)
      came.state_after.paths within in
      λ name. go name flows bounds
    where
      go : (name : PathName) → FlowsAgree beginning past
          → AreWithinBounds beginning.words latest_start (each_path known_of (pasts_of beginning past))
          → is_validated beginning.config.validated name past ≡ false
          → sum_by bytes_out (datagrams_on name past) ≤ 3 * sum_by bytes_in (datagrams_on name past)
      go Current flows bounds = threefold_by (is_validated beginning.config.validated Current past)
          (datagrams_on Current past) (pasts_of beginning past).current flows.0.0 bounds.0.threefold
      go Previous flows bounds = where_there (is_validated beginning.config.validated Previous past)
          (datagrams_on Previous past) (pasts_of beginning past).previous flows.1
          (λ there is. (bounds.1 there is).threefold)

pub stays_threefold : {F Q R C K S M P : Type 0} {f : _} {c : _} {q : _} {m : _} {r : _}
    (sender : Sender F Q R C K S M P f c q m r) → ForEveryRun sender SendsThreefold
stays_threefold {f = f} {c = c} {q = q} sender config start random past came =
    sends_threefold (begins f.built c.words (queue_model q.contents q.words q.blank) config start random) past
    (state_in sender) came sender.bounded
