-- Persistent congestion results in the smallest window, up to the end of the call that reports it (RFC 9002, 7.6.2).
use Rattle.std.proofs.Common.{◌≡◌, ◌≢◌, ◌≤◌, ℕ, min, true, false, Bool, List, [], ◌∷◌, ◌++◌, Option, None, Some, Ok, Err, ap, refl, sym, subst, ◌∙◌, inl, inr, true≢false, arith}
use Rattle.recovery_base.specs.declared.below.SpaceId.{SpaceId}
use Rattle.recovery_base.specs.declared.below.frames.EcnCounts.{EcnCounts}
use Rattle.recovery_base.specs.Units.{last_time}
use Rattle.recovery_congestion.specs.Calls.{congests}
use Rattle.recovery_congestion.specs.Controllers.{ControllerLaws, ControllerSemantics, HasLeastWindow}
use Rattle.recovery_events.specs.declared.event.Answer.{Answer}
use Rattle.recovery_events.specs.declared.event.Answer.TheVariants.{BlackHole}
use Rattle.recovery_events.specs.declared.event.Event.{Event}
use Rattle.recovery_events.specs.declared.event.Event.TheVariants.{Congestion, Ecn, Lost, LossesDone}
use Rattle.recovery_events.specs.declared.event.Refusal.TheVariants.{NoMemory}
use Rattle.recovery_paths.specs.PathLog.{PathReplyInputs, PathsStep, PerPath, paths_known}
use Rattle.recovery_paths.specs.PathMaking.{PathSettings}
use Rattle.recovery_paths.specs.PathStates.{Path, PathMarks}
use Rattle.recovery_losses.specs.declared.due.Due.{Due}
use Rattle.recovery_losses.specs.declared.variables.Variables.{Variables}
use Rattle.recovery_losses.specs.Losses.{last_counted}
use Rattle.recovery_losses.proofs.PersistentCongestionLaws.{one_counted}
use Rattle.recovery_history.specs.History.{QueueModel, Reply, queue_model}
use Rattle.recovery_history.specs.RecoveryState.{RecoveryState}
use Rattle.recovery_history.specs.Table.{entries_of}
use Rattle.recovery_history.specs.Transitions.{StateTransition, inputs_of}
use Rattle.recovery_history.proofs.EntryKinds.{is_by}
use Rattle.recovery_history.proofs.EventBoundLaws.{IsBounded, event_keeps_bounds, event_leaves_controller, leaves_controller}
use Rattle.recovery_sender.specs.declared.sender.acks.EcnOutcome.{EcnOutcome}
use Rattle.recovery_sender.specs.declared.sender.acks.EcnOutcome.TheVariants.{Quiet, Marked, Failed}
use Rattle.recovery_sender.specs.declared.sender.losses.Losses.{Losses}
use Rattle.recovery_sender.specs.declared.sender.Sender.{Sender}
use Rattle.recovery_sender.specs.Acking.{EcnCompared, EcnResult}
use Rattle.recovery_sender.specs.Attempts.{LossAttempt, probe_attempts, trying}
use Rattle.recovery_sender.specs.Bounds.{IsWindowLeast, latest_start}
use Rattle.recovery_sender.specs.Detection.{DetectsLosses, congested, ended}
use Rattle.recovery_sender.specs.Losses.{largest_in, look_of}
use Rattle.recovery_sender.specs.Senders.{state_in}
use Rattle.recovery_sender.specs.Spaces.{packets_in}
use Rattle.recovery_sender.specs.Steps.{CompletesCall, RearmsTimer, SenderStep, StepsLeadTo, TakesSteps, loss_time, marked, occurs, timer_event, told}
use Rattle.recovery_sender.specs.Timer.{due_of}
use Rattle.recovery_sender.proofs.BoundLaws.{loss_time_paths}

-- a window that is the smallest remains so, if the controller is unchanged
stays_least : {K P M : Type 0} (words : ControllerSemantics K) (old new : RecoveryState K P M)
    → new.paths.current.state.controller ≡ old.paths.current.state.controller → IsWindowLeast words old
    → IsWindowLeast words new
stays_least words old new same least = subst (λ k. HasLeastWindow words k) (sym same) least

-- ---- steps, by the recovery before and after them

module _ {F K Q S M P : Type 0} (built : F → ℕ → ℕ → K) (queue : QueueModel Q S M P) (settings : PathSettings K)
    {IsSound : K → Type 0} (laws : ControllerLaws settings.words IsSound)
    (starts : (now : ℕ) → settings.words.recovery_start (settings.built now) ≤ now) where
  abbrev Leads : List (SenderStep Q S M P) → RecoveryState K P M → RecoveryState K P M → Type 0
  Leads = StepsLeadTo built settings.words queue

  abbrev AreBounded : RecoveryState K P M → Type 0
  AreBounded = IsBounded queue latest_start settings laws.start starts

  abbrev IsLeast : RecoveryState K P M → Type 0
  IsLeast = IsWindowLeast settings.words

  -- the first of two lists of steps, and the second
  splits : (steps more : List (SenderStep Q S M P)) (old new : RecoveryState K P M) → Leads (steps ++ more) old new
      → (between : RecoveryState K P M) × Leads steps old between × Leads more between new
  splits [] more old new leads = (old, refl, leads)
  splits (told event reply ∷ steps) more old new leads =
      let rest = splits steps more leads.0 new leads.3 in
      (rest.0, (leads.0, leads.1, leads.2, rest.1), rest.2)
  splits (occurs event ∷ steps) more old new leads =
      let rest = splits steps more leads.1 new leads.4 in
      (rest.0, (leads.0, leads.1, leads.2, leads.3, rest.1), rest.2)
  splits (loss_time space time ∷ steps) more old new leads = splits steps more _ new leads
  splits (marked marks ∷ steps) more old new leads = splits steps more _ new leads

  -- ---- packets are declared lost

  tries_bounded : (space : SpaceId) (attempts : List LossAttempt) (old new : RecoveryState K P M)
      → Leads (trying space attempts) old new → AreBounded old → AreBounded new
  tries_bounded space [] old new leads within = subst AreBounded (sym leads) within
  tries_bounded space ((number, false) ∷ attempts) old new leads within =
      tries_bounded space attempts leads.1 new leads.4
      (event_keeps_bounds queue latest_start settings laws.start starts (Lost space number) (Ok leads.0) old leads.1 tt
      leads.2 within)
  tries_bounded space ((number, true) ∷ attempts) old new leads within =
      tries_bounded space attempts leads.0 new leads.3
      (event_keeps_bounds queue latest_start settings laws.start starts (Lost space number) (Err NoMemory) old leads.0
      tt leads.1 within)

  tries_least : (space : SpaceId) (attempts : List LossAttempt) (old new : RecoveryState K P M)
      → Leads (trying space attempts) old new → IsLeast old → IsLeast new
  tries_least space [] old new leads least = subst IsLeast (sym leads) least
  tries_least space ((number, false) ∷ attempts) old new leads least = tries_least space attempts leads.1 new leads.4
      (stays_least settings.words old leads.1
      (event_leaves_controller queue old (Lost space number) (Ok leads.0) leads.1 refl leads.2) least)
  tries_least space ((number, true) ∷ attempts) old new leads least = tries_least space attempts leads.0 new leads.3
      (stays_least settings.words old leads.0
      (event_leaves_controller queue old (Lost space number) (Err NoMemory) leads.0 refl leads.1) least)

  -- the losses are ended
  ends_bounded : (now : ℕ) (reported : Bool) (numbers : List ℕ) (old new : RecoveryState K P M)
      → Leads (ended now reported numbers) old new → AreBounded old → AreBounded new
  ends_bounded now reported [] old new leads within = subst AreBounded (sym leads) within
  ends_bounded now reported (number ∷ numbers) old new leads within = subst AreBounded (sym leads.3)
      (event_keeps_bounds queue latest_start settings laws.start starts (LossesDone now) (Ok (BlackHole reported)) old
      leads.0 tt leads.1 within)

  -- ---- congestion

  congests_so : (now sent : ℕ) (persistent : Bool) (bytes : ℕ) (answer : Answer Q) (old new : RecoveryState K P M)
      → old.settings ≡ settings → StateTransition queue old (Congestion now sent persistent bytes) (Ok answer) new
      → new.paths.current.state.controller
      ≡ settings.words.after (congests now sent persistent bytes) old.paths.current.state.controller
  congests_so now sent persistent bytes answer old new same step =
      ap (λ (paths : PerPath (PathReplyInputs K)). paths.current.state.controller)
      (subst (λ (settings : PathSettings K). PathsStep settings (entries_of queue (inputs_of old)
      (Congestion now sent persistent bytes) (Ok answer)).paths (paths_known old.paths) (paths_known new.paths)) same
      step.steps.paths)

  -- persistent congestion results in the smallest window
  persists_least : (now bytes : ℕ) (sent : Option ℕ) → sent ≢ None → (old new : RecoveryState K P M)
      → Leads (congested now true bytes sent) old new → AreBounded old → IsLeast new
  persists_least now bytes None some old new leads within = absurd (some refl)
  persists_least now bytes (Some sent) some old new leads within = subst IsLeast (sym leads.4) (
      subst (λ (k : K). HasLeastWindow settings.words k)
      (sym (congests_so (min now latest_start) last_time true bytes leads.0 old leads.1 within.0 leads.2))
      (laws.persistent (min now latest_start) last_time bytes old.paths.current.state.controller
      (omega (arith, within.1.0.start))))

  -- other congestion preserves it
  congests_least : (now bytes : ℕ) (sent : Option ℕ) (old new : RecoveryState K P M) → old.settings ≡ settings
      → Leads (congested now false bytes sent) old new → IsLeast old → IsLeast new
  congests_least now bytes None old new same leads least = subst IsLeast (sym leads) least
  congests_least now bytes (Some sent) old new same leads least = subst IsLeast (sym leads.4) (
      subst (λ (k : K). HasLeastWindow settings.words k)
      (sym (congests_so (min now latest_start) sent false bytes leads.0 old leads.1 same leads.2))
      (laws.least (min now latest_start) sent false bytes old.paths.current.state.controller least))

  -- ---- a detection pass

  pub least_behind : (space : SpaceId) (at : ℕ) (attempts last : List LossAttempt) (reported : Bool)
      (numbers : List ℕ) (bytes : ℕ) (sent : Option ℕ) → sent ≢ None → (time : Option ℕ)
      (old new : RecoveryState K P M)
      → Leads (trying space attempts ++ (ended at reported numbers ++ (congested at true bytes sent
      ++ (trying space last ++ loss_time space time ∷ [])))) old new → AreBounded old → IsLeast new
  least_behind space at attempts last reported numbers bytes sent some time old new leads within =
      let first = splits (trying space attempts) _ old new leads in
      let second = splits (ended at reported numbers) _ first.0 new first.2 in
      let third = splits (congested at true bytes sent) _ second.0 new second.2 in
      let fourth = splits (trying space last) _ third.0 new third.2 in
      let there = tries_bounded space attempts old first.0 first.1 within in
      let shown = ends_bounded at reported numbers first.0 second.0 second.1 there in
      let least = persists_least at bytes sent some second.0 third.0 third.1 shown in
      let tried = tries_least space last third.0 fourth.0 fourth.1 least in
      stays_least settings.words fourth.0 new
      (ap (λ (recovery : RecoveryState K P M). recovery.paths.current.state.controller) fourth.2
      ∙ ap (λ (paths : PerPath (Path K)). paths.current.state.controller) (loss_time_paths space time fourth.0)) tried

-- ---- the calls of a sender

-- the event by which the timer is set leaves the controller unchanged
timer_leaves : (Q S M P : Type 0) (due : Option (ℕ × Due))
    → is_by leaves_controller (timer_event {Q = Q} {S = S} {M = M} {P = P} due) ≡ true
timer_leaves Q S M P None = refl
timer_leaves Q S M P (Some due) = refl

module _ {F Q R C K S M P : Type 0} {f : _} {c : _} {q : _} {m : _} {r : _} where
  abbrev Least : Sender F Q R C K S M P f c q m r → Type 0
  Least sender = IsWindowLeast c.words (state_in sender)

  module _ (old new : Sender F Q R C K S M P f c q m r) where
    abbrev model : QueueModel Q S M P
    model = queue_model q.contents q.words q.blank

    none_least : TakesSteps [] old new → Least old → Least new
    none_least goes least = subst (λ (at : RecoveryState K P M). IsWindowLeast c.words at) (sym goes.leads) least

    told_least : (event : Event Q S M P) (reply : Reply Q) → is_by leaves_controller event ≡ true
        → TakesSteps (told event reply ∷ []) old new → Least old → Least new
    told_least event reply is goes least =
        let leads = goes.leads in
        subst (λ (at : RecoveryState K P M). IsWindowLeast c.words at) (sym leads.3)
        (stays_least c.words (state_in old) leads.0
        (event_leaves_controller model (state_in old) event reply leads.0 is leads.1) least)

    marked_least : (marks : PathMarks) → TakesSteps (marked marks ∷ []) old new → Least old → Least new
    marked_least marks goes least =
        subst (λ (at : RecoveryState K P M). IsWindowLeast c.words at) (sym goes.leads) least

    -- the timer is set
    completes_least : (kept : Variables) → CompletesCall [] kept old new → Least old → Least new
    completes_least kept does least = sets does.sets
      where
        there : IsWindowLeast c.words does.between
        there = subst (λ (at : RecoveryState K P M). IsWindowLeast c.words at) (sym does.leads) least

        sets : RearmsTimer f.built c.words model kept does.between (state_in new) → Least new
        sets (inl same) = subst (λ (at : RecoveryState K P M). IsWindowLeast c.words at) (sym same.1) there
        sets (inr set) =
            let leads = set.1 in
            subst (λ (at : RecoveryState K P M). IsWindowLeast c.words at) (sym leads.3)
            (stays_least c.words does.between leads.0 (event_leaves_controller model does.between _ _ leads.0
            (timer_leaves Q S M P (due_of (state_in new) kept)) leads.1) there)

    module _ {IsSound : K → Type 0} (laws : ControllerLaws c.words IsSound)
        (starts : (factory : F) (now mtu : ℕ) → c.words.recovery_start (f.built factory now mtu) ≤ now) where
      starts_in : (now : ℕ) → c.words.recovery_start ((state_in old).settings.built now) ≤ now
      starts_in now = starts old.recovery.recovery.transport.congestion_controller_factory now _

      congested_least : (now bytes : ℕ) (sent : Option ℕ) → TakesSteps (congested now false bytes sent) old new
          → Least old → Least new
      congested_least now bytes sent goes least =
          congests_least f.built model (state_in old).settings laws starts_in now bytes sent (state_in old)
          (state_in new) refl goes.leads least

      -- the detection pass
      pub detects_least : (space : SpaceId) (now at : ℕ) (due : Bool) (losses : Losses)
          → DetectsLosses space now at due old losses new → losses.is_persistent ≡ true → Least new
      detects_least space now at due losses detects persistent = by (largest_in (state_in old) space) refl
        where
          by : (largest : Option ℕ) → largest_in (state_in old) space ≡ largest → Least new
          by None none = absurd (true≢false (sym persistent ∙ (detects.none none).0.persistent))
          by (Some largest) is =
              let look = look_of (state_in old) old.variables space at due largest in
              let packets = packets_in (state_in old) space in
              let looks = detects.looks largest is in
              let result = looks.2 in
              let run = result.persistent.0 persistent in
              let some = one_counted look packets losses.numbers.items run.first run.begins.packet run.begins.told
              run.begins.is run.begins.counts in
              least_behind f.built model (state_in old).settings laws starts_in space now looks.0
              (probe_attempts result.found losses.probe) losses.is_black_hole losses.numbers.items _
              (last_counted look packets losses.numbers.items) some looks.1 (state_in old) (state_in new)
              (rw persistent at looks.4.leads) (refl, old.bounded)

  -- the ECN counts
  compared_least : (space : SpaceId) (now newly : ℕ) (sent : Option ℕ) (counts : EcnCounts) (end : EcnOutcome)
      (old new : Sender F Q R C K S M P f c q m r)
      {IsSound : K → Type 0} (laws : ControllerLaws c.words IsSound)
      (starts : (factory : F) (now mtu : ℕ) → c.words.recovery_start (f.built factory now mtu) ≤ now)
      → EcnCompared space now newly sent old new counts end → Least old → Least new
  compared_least space now newly sent counts Quiet old new laws starts compares least =
      told_least old new (Ecn space newly counts) (Ok compares.0) refl compares.2 least
  compared_least space now newly sent counts Marked old new laws starts (answer, between, is, tells, reports) least =
      congested_least between new laws starts now 0 sent reports
      (told_least old between (Ecn space newly counts) (Ok answer) refl tells least)
  compared_least space now newly sent counts Failed old new laws starts (between, refusal, tells, stops) least =
      marked_least between new _ stops (told_least old between (Ecn space newly counts) (Err refusal) refl tells least)

  ecn_least : (space : SpaceId) (now newly : ℕ) (sent : Option ℕ) (sending : Bool)
      (counts : Option EcnCounts) (raised : Bool) (end : EcnOutcome) (old new : Sender F Q R C K S M P f c q m r)
      {IsSound : K → Type 0} (laws : ControllerLaws c.words IsSound)
      (starts : (factory : F) (now mtu : ℕ) → c.words.recovery_start (f.built factory now mtu) ≤ now)
      → EcnResult space now newly sent old new sending counts raised end → Least old → Least new
  ecn_least space now newly sent false counts raised end old new laws starts result least =
      none_least old new result.1 least
  ecn_least space now newly sent true counts false end old new laws starts result least =
      none_least old new result.1 least
  ecn_least space now newly sent true None true end old new laws starts result least =
      marked_least old new _ result.1 least
  ecn_least space now newly sent true (Some counts) true end old new laws starts result least =
      compared_least space now newly sent counts end old new laws starts result least

  -- a frame, after its acknowledgements
  pub acknowledges_least : (space : SpaceId) (now at newly : ℕ) (sent : Option ℕ) (losses : Losses) (sending : Bool)
      (counts : Option EcnCounts) (raised : Bool) (end : EcnOutcome) (kept : Variables)
      (old looked heard new : Sender F Q R C K S M P f c q m r)
      {IsSound : K → Type 0} (laws : ControllerLaws c.words IsSound)
      (starts : (factory : F) (now mtu : ℕ) → c.words.recovery_start (f.built factory now mtu) ≤ now)
      → DetectsLosses space now at true old losses looked
      → EcnResult space now newly sent looked heard sending counts raised end → CompletesCall [] kept heard new
      → losses.is_persistent ≡ true → Least new
  acknowledges_least space now at newly sent losses sending counts raised end kept old looked heard new laws starts
      detects compares does persistent =
      completes_least heard new kept does (ecn_least space now newly sent sending counts raised end looked heard laws
      starts compares (detects_least old looked laws starts space now at true losses detects persistent))
