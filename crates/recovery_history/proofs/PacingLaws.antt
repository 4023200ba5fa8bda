-- Each pacer delays by its balance and observes its rate, throughout a run: the clauses `delayed`, `rate`,
-- `passes_after_delay`, `passes_at_reported_time`, `delayed_when_uncovered` and `paid_rate` of `run`.
use Rattle.std.proofs.Common.{arith, ℕ, true, ◌∷◌, Option, Ok, refl}
use Rattle.recovery_congestion.specs.PacerLog.{AreChecked, KeepsRate}
use Rattle.recovery_congestion.specs.Pacing.{PacerCall}
use Rattle.recovery_congestion.specs.ReportedTime.{PassesAtMoment}
use Rattle.recovery_congestion.specs.PaidLog.{DelaysUncovered, PaysInFull}
use Rattle.recovery_congestion.specs.Progress.{PassesBehind}
use Rattle.recovery_congestion.proofs.PacerLogLaws.{delays_by, keeps_rate}
use Rattle.recovery_congestion.proofs.ReportedTimeLaws.{passes_at_moment}
use Rattle.recovery_congestion.proofs.PaidLogLaws.{delays_uncovered, pays_in_full, pays_rate}
use Rattle.recovery_congestion.proofs.ProgressLaws.{passes_behind}
use Rattle.recovery_paths.specs.PathLog.{OnEachPath, PathHistory, path_state_of}
use Rattle.recovery_paths.specs.PathStates.{pacer_call, path_delay}
use Rattle.recovery_paths.proofs.PassedLaws.{HavePassedOn, passed_after, passed_at_first}
use Rattle.recovery_events.specs.declared.event.Event.{Event}
use Rattle.recovery_events.specs.declared.event.Event.TheVariants.{Transmit, PacerCheck}
use Rattle.recovery_history.specs.RepliesAfter.{logs_of, pasts_of, inputs_after, first_path, settings_of, RepliesAfter}
use Rattle.recovery_history.specs.History.{Beginning, History, Reply}
use Rattle.recovery_history.specs.Pacing.{IsByBalance, AtPacerCall, AtPacerCalls, DelaysByBalance, DelaysExactly, PassesAfterDelay, PassesAtReportedTime, BoundsPacingRate, BoundsPaidRate}
use Rattle.recovery_history.proofs.Runs.{AllAlong, throughout_kept}
use Rattle.recovery_history.proofs.AllowedEntryLaws.{is_allowed}
use Rattle.recovery_history.proofs.SearchSaid.{Follows, Keeps}

-- a pacer whose checked transmissions had passed observes its rate
keeps_pace : {K : Type 0} (past : PathHistory K) → HavePassedOn past → AreChecked past.pacing
    → KeepsRate past.kept.pacer past.pacing
keeps_pace past passed checked = keeps_rate past.kept.pacer past.pacing passed.0 checked passed.1

module _ {F K Q S M P : Type 0} (beginning : Beginning F K Q S M P) where
  -- on each existing path, what was transmitted checked had passed the pacer
  abbrev HavePassedThere : History Q S M P → Type 0
  HavePassedThere history = OnEachPath HavePassedOn (pasts_of beginning history)

  -- an event preserves that
  passed_one : Keeps (RepliesAfter beginning) HavePassedThere
  passed_one before event reply told passed =
      passed_after (settings_of beginning) (first_path beginning) _ (logs_of beginning before).paths
      (is_allowed beginning.queue (settings_of beginning) _ (inputs_after beginning before) event reply told) passed

  -- what holds for each call and its answer holds at each event
  module _ (Holds : PathHistory K → PacerCall → Option ℕ → Type 0) where
    at_calls : (before : History Q S M P) (event : Event Q S M P) (reply : Reply Q)
        → RepliesAfter beginning before event reply
        → ((now bytes : ℕ) → AtPacerCall beginning Holds before now bytes
        (path_delay beginning.words now bytes (path_state_of (pasts_of beginning before).current)))
        → AtPacerCalls beginning Holds before event reply
    at_calls before (PacerCheck now bytes) (Ok answer) told holds =
        rw told (grind (arith, holds now bytes))
    at_calls before (Transmit now bytes true) (Ok answer) told holds =
        rw told.1 (grind (arith, holds now bytes))
    at_calls before event reply told holds = tt

  -- what follows at each event holds throughout a run
  paced : (Holds : History Q S M P → Event Q S M P → Reply Q → Type 0)
      → Follows (RepliesAfter beginning) HavePassedThere Holds → AllAlong beginning Holds
  paced Holds each =
      throughout_kept beginning HavePassedThere Holds passed_one each
      (passed_at_first (settings_of beginning) (first_path beginning) refl)

  -- the pacer of the path in use, and its call
  abbrev pacing : History Q S M P → PathHistory K
  pacing before = (pasts_of beginning before).current

  abbrev call : History Q S M P → ℕ → ℕ → PacerCall
  call before = pacer_call beginning.words (path_state_of (pacing before))

  -- each call is answered by the balance
  pub delayed : AllAlong beginning (DelaysByBalance beginning)
  delayed = paced (DelaysByBalance beginning) (λ before event reply told passed.
      at_calls IsByBalance before event reply told (λ now bytes checked.
      delays_by (pacing before).kept.pacer (pacing before).pacing (call before now bytes) passed.0.0 checked
      passed.0.1))

  -- after an event each pacer observes its rate
  pub rate : AllAlong beginning (BoundsPacingRate beginning)
  rate = paced (BoundsPacingRate beginning) (λ before event reply told passed.
      let after = passed_one before event reply told passed in
      (keeps_pace (pacing ((event, reply) ∷ before)) after.0, λ past is. keeps_pace past (after.1 past is)))

  -- a delayed call passes soon
  pub soon : AllAlong beginning (PassesAfterDelay beginning)
  soon = paced (PassesAfterDelay beginning) (λ before event reply told passed.
      at_calls (λ past. PassesBehind past.kept.pacer past.pacing) before event reply told (λ now bytes.
      passes_behind (pacing before).kept.pacer (pacing before).pacing (call before now bytes)))

  -- and at the reported time, if there is room
  pub named : AllAlong beginning (PassesAtReportedTime beginning)
  named = paced (PassesAtReportedTime beginning) (λ before event reply told passed.
      at_calls (λ past. PassesAtMoment past.kept.pacer past.pacing) before event reply told (λ now bytes.
      passes_at_moment (pacing before).kept.pacer (pacing before).pacing (call before now bytes)))

  -- what the balance does not cover is delayed
  pub covered : AllAlong beginning (DelaysExactly beginning)
  covered = paced (DelaysExactly beginning) (λ before event reply told passed.
      at_calls (λ past. DelaysUncovered past.kept.pacer past.pacing) before event reply told (λ now bytes.
      delays_uncovered (pacing before).kept.pacer (pacing before).pacing (call before now bytes) passed.0.0))

  -- what passes is paid for in full, and what is paid for observes the rate
  pub paid : AllAlong beginning (BoundsPaidRate beginning)
  paid = paced (BoundsPaidRate beginning) (λ before event reply told passed.
      let after = passed_one before event reply told passed in
      let now = pacing ((event, reply) ∷ before) in (
        at_calls (λ past. PaysInFull past.kept.pacer past.pacing) before event reply told (λ now bytes.
            pays_in_full (pacing before).kept.pacer (pacing before).pacing (call before now bytes) passed.0.0),
        (
          pays_rate now.kept.pacer now.pacing after.0.0,
          λ past is. pays_rate past.kept.pacer past.pacing (after.1 past is).0,
        ),
      ))
