-- One event extends a past: what `run` guarantees for a list of events, `apply` guarantees for the event after a past.
use Rattle.std.proofs.Common.{ℕ, ◌<◌, ◌^◌, ◌∷◌, None, if◌then◌else◌}
use Rattle.std.specs.Option.{ForSome}
use mathlib.Core.Logic.{∥∥₁_map}
use Rattle.recovery_congestion.specs.Controllers.{ControllerSemantics}
use Rattle.recovery_paths.specs.Balance.{AreBalanced}
use Rattle.recovery_events.specs.declared.event.Event.{Event}
use Rattle.recovery_history.specs.History.{AtEach, Beginning, History, QueueModel, Reply}
use Rattle.recovery_history.specs.RecoveryState.{RecoveryState}
use Rattle.recovery_history.specs.Reachability.{ReachedBy, IsReachableState, StepFromAnyPast, StepFromPast, StepGuarantees, PreservesPastsOf, StepFromSomePast}
use Rattle.recovery_history.specs.Transitions.{StateTransition}
use Rattle.recovery_history.specs.RepliesAfter.{RepliesAfter}
use Rattle.recovery_history.proofs.AcknowledgedLaws.{keeps_to_acknowledge}
use Rattle.recovery_history.proofs.BlockedLaws.{blocks_exactly}
use Rattle.recovery_history.proofs.CountedLaws.{counts_in_flight}
use Rattle.recovery_history.proofs.ContentsLaws.{loses_nothing}
use Rattle.recovery_history.proofs.AckDutyLaws.{keeps_duty}
use Rattle.recovery_history.proofs.EcnLaws.{checks_ecn}
use Rattle.recovery_history.proofs.ProbeCountLaws.{few_told}
use Rattle.recovery_history.proofs.ForgottenLaws.{forgets_oldest}
use Rattle.recovery_history.proofs.FrequencyLaws.{takes_newest}
use Rattle.recovery_history.proofs.OverflowLaws.{overflows_full}
use Rattle.recovery_history.proofs.HalvingLaws.{halves_told}
use Rattle.recovery_history.proofs.BlackHolesLaws.{holes_told}
use Rattle.recovery_history.proofs.StateAfterLaws.{changes_by_logs, left_after}
use Rattle.recovery_history.proofs.MtuLaws.{mtu_told}
use Rattle.recovery_history.proofs.ConvergenceLaws.{near_told}
use Rattle.recovery_history.proofs.NewNumbersLaws.{numbers_told}
use Rattle.recovery_history.proofs.OneOutcomeLaws.{have_one_fate, leave_once}
use Rattle.recovery_history.proofs.OwnIdsLaws.{asks_to_retire, issues_ids}
use Rattle.recovery_history.proofs.PacingLaws.{delayed, rate, soon, named, covered, paid}
use Rattle.recovery_history.proofs.PeerIdsLaws.{accepts_ids}
use Rattle.recovery_history.proofs.PendingLaws.{hands_out}
use Rattle.recovery_history.proofs.RejectionsLaws.{refuses_rightly, spares_memory}
use Rattle.recovery_history.proofs.SendableLaws.{finds_to_send}
use Rattle.recovery_history.proofs.ProbeSizesLaws.{sizes_told}
use Rattle.recovery_history.proofs.SkippedLaws.{keeps_next, keeps_skipped, sends_unless, skips_none}
use Rattle.recovery_history.proofs.AckTimerLaws.{starts_timer}
use Rattle.recovery_history.proofs.AmplificationLaws.{sends_threefold}
use Rattle.recovery_history.proofs.UnloggedLaws.{timers_told}
use Rattle.recovery_history.proofs.RepliesAfterLaws.{told_by_logs}
use Rattle.recovery_history.proofs.TrackedLaws.{keeps_rising}
use Rattle.recovery_history.proofs.ProbesPerSizeLaws.{tries_told}
use Rattle.recovery_history.proofs.OneProbeLaws.{turns_told}

module _ {F K Q S M P : Type 0} (beginning : Beginning F K Q S M P) where
  -- the upper bound of a search, if MTU discovery is enabled
  abbrev pub UpperFits : Type 0
  UpperFits = ForSome (if beginning.config.allow_mtud then beginning.config.transport.mtu_discovery_config else None)
      (λ settings. settings.upper_bound < 2 ^ 16)

  -- all promises of an event follow from the replies to it and to those before it
  pub keeps : UpperFits → (before : History Q S M P) (event : Event Q S M P) (reply : Reply Q)
      → AtEach (RepliesAfter beginning) ((event, reply) ∷ before) → StepGuarantees beginning before event reply
  keeps small before event reply all =
      let now = (event, reply) ∷ before in
      let one = have_one_fate beginning now all in
      record {
        reply_after = all.0;
        new = numbers_told beginning before event reply all.0;
        timers = timers_told beginning before event reply all.0;
        peer_ids = (accepts_ids beginning now all).0;
        own_ids = (issues_ids beginning now all).0;
        rejections = (refuses_rightly beginning now all).0;
        counted = (counts_in_flight beginning now all).0;
        amplification_limit = (sends_threefold beginning now all).0;
        blocked = (blocks_exactly beginning now all).0;
        delayed = (delayed beginning now all).0;
        rate = (rate beginning now all).0;
        passes_after_delay = (soon beginning now all).0;
        passes_at_reported_time = (named beginning now all).0;
        delayed_when_uncovered = (covered beginning now all).0;
        paid_rate = (paid beginning now all).0;
        mtu = (mtu_told beginning small now all).0;
        one_probe = (turns_told beginning small now all).0;
        sizes = (sizes_told beginning small now all).0;
        probe_count = (few_told beginning small now all).0;
        convergence = (near_told beginning small now all).0;
        black_holes = (holes_told beginning now all).0;
        one_outcome = one;
        numbers_increase = (keeps_rising beginning now all).0;
        resolved_once = leave_once now one;
        conserved_data = loses_nothing beginning now all;
        ack_scheduled = (keeps_duty beginning now all).0;
        to_acknowledge = keeps_to_acknowledge beginning now all;
        next_number = (keeps_next beginning now all).0;
        skipped_acks = (keeps_skipped beginning now all).0;
        send_result = (sends_unless beginning now all).0;
        forgotten = (forgets_oldest beginning now all).0;
        ack_timer = (starts_timer beginning now all).0;
        sendable = finds_to_send beginning before event reply all;
        ecn = checks_ecn beginning before event reply all.0;
        frequency = (takes_newest beginning now all).0;
        overflow = (overflows_full beginning now all).0;
        probes_per_size = (tries_told beginning now all).0;
        bisection = (halves_told beginning now all).0;
        retirement_requests = (asks_to_retire beginning now all).0;
        pending = hands_out beginning before event reply all.0;
        no_skips = (skips_none beginning now all).0;
        allocates_to_grow = spares_memory beginning before event reply all.0;
      }

  -- every past that led to the old state is extended: each clause of whole runs holds at the new event
  pub extends : (past : History Q S M P) (old : RecoveryState K P M) (event : Event Q S M P) (reply : Reply Q)
      (new : RecoveryState K P M)
      → ReachedBy beginning past old → StateTransition beginning.queue old event reply new
      → AreBalanced new.spaces new.paths
      → StepFromPast beginning past event reply new
  extends past old event reply new came changes balanced =
      let by = changes_by_logs beginning past old event reply new came.state_after changes in
      let here = told_by_logs beginning past old came.state_after event reply by.told in
      let now = (event, reply) ∷ past in
      let all : AtEach (RepliesAfter beginning) now = (here, came.replies) in
      record {
        keeps = keeps came.small past event reply all;
        came = record {
          replies = all;
          state_after = left_after beginning past event reply old new came.state_after by balanced;
          small = came.small;
        };
      }

module _ {F K Q S M P : Type 0} {built : F → ℕ → ℕ → K} {words : ControllerSemantics K} {queue : QueueModel Q S M P}
    {old : RecoveryState K P M} {event : Event Q S M P} {reply : Reply Q} {new : RecoveryState K P M}
    (on : StepFromAnyPast built words queue old event reply new)
  where
    -- from a past that led to the old state it continued
    pub extended : ∥ IsReachableState built words queue old ∥₁
        → ∥ StepFromSomePast built words queue old event reply new ∥₁
    extended by = ∥∥₁_map by (λ by. record { origin = by; goes = on by.config by.start by.random by.past by.came })

    -- and it led to the new state
    pub still_came : ∥ IsReachableState built words queue old ∥₁ → ∥ IsReachableState built words queue new ∥₁
    still_came by = ∥∥₁_map by (λ by. record {
      config = by.config;
      start = by.start;
      random = by.random;
      past = (event, reply) ∷ by.past;
      came = (on by.config by.start by.random by.past by.came).came;
    })

module _ {F K Q S M P : Type 0} {built : F → ℕ → ℕ → K} {words : ControllerSemantics K} {queue : QueueModel Q S M P}
    {old new : RecoveryState K P M} (stays : PreservesPastsOf built words queue old new) where
  -- what preserves every past preserves that there is one
  pub stays_come : ∥ IsReachableState built words queue old ∥₁ → ∥ IsReachableState built words queue new ∥₁
  stays_come by = ∥∥₁_map by (λ by. record {
    config = by.config;
    start = by.start;
    random = by.random;
    past = by.past;
    came = stays by.config by.start by.random by.past by.came;
  })
