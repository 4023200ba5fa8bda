-- The inputs from the parts are what their logs say, and one more event leaves what its entries say. The loop of `run`
-- and `ReachabilityLaws` carry it from event to event.
use Rattle.std.proofs.Common.{arith, ◌≡◌, ℕ, List, [], ◌∷◌, Option, None, Some, sym, ap, ◌∙◌}
use Rattle.std.proofs.Math.Path.{fun_ext}
use Rattle.recovery_base.specs.declared.below.SpaceId.{SpaceId}
use Rattle.recovery_base.specs.declared.below.SpaceId.TheVariants.{Data}
use Rattle.recovery_ids.specs.CidQueue.{remote_ids}
use Rattle.recovery_spaces.specs.Ledger.{tracked_by}
use Rattle.recovery_spaces.specs.Packets.{no_packets}
use Rattle.recovery_spaces.specs.Paths.{counters_of, fresh_ledger, generation_of}
use Rattle.recovery_spaces.specs.SpaceLog.{SpaceEntry, sends}
use Rattle.recovery_queue.specs.Queues.{QueueSemantics}
use Rattle.recovery_spaces.specs.Spaces.{Spaces, space_of, tracking_of, SpaceStep, SpaceAfter, IsMade}
use Rattle.recovery_spaces.specs.Tracked.{SentState, sent_by}
use Rattle.recovery_spaces.proofs.CoherentLaws.{fresh_coherent}
use Rattle.recovery_spaces.proofs.SpaceLaws.{space_law}
use Rattle.recovery_paths.specs.Balance.{AreBalanced}
use Rattle.recovery_paths.specs.PathLog.{PerPath, PathsAfter, paths_known}
use Rattle.recovery_paths.specs.PathStates.{Path}
use Rattle.recovery_paths.proofs.BalanceLaws.{fresh}
use Rattle.recovery_paths.proofs.PathLogLaws.{paths_law}
use Rattle.recovery_packet_numbers.specs.Filters.{SkipState, skipping_at}
use Rattle.recovery_packet_numbers.proofs.SkipLaws.{allocated, number_at, last_at}
use Rattle.recovery_events.specs.declared.event.Event.{Event}
use Rattle.recovery_history.specs.Table.{entries_of}
use Rattle.recovery_history.specs.RepliesAfter.{inputs_after, logs_of, first_ids, first_path, settings_of}
use Rattle.recovery_history.specs.History.{Beginning, History, Reply}
use Rattle.recovery_history.specs.ReplyInputs.{tracked_known}
use Rattle.recovery_history.specs.Logs.{onto}
use Rattle.recovery_history.specs.RecoveryState.{RecoveryState}
use Rattle.recovery_history.specs.StateAfter.{InFlightAfter, LoggedStateAfter}
use Rattle.recovery_history.specs.Transitions.{acks_to, SkippingStep, StateTransitionBy, StateTransition, inputs_of}
use Rattle.recovery_history.proofs.CallerStateLaws.{untouched_stays}
use Rattle.recovery_history.proofs.LogLaws.{left_by_entry}
use Rattle.recovery_history.proofs.PeerIdsLaws.{held_same}
use Rattle.recovery_history.proofs.UnloggedLaws.{plain_after}

module _ {F K Q S M P : Type 0} (beginning : Beginning F K Q S M P) where
  -- ---- what is in flight

  pub in_flight_law : (history : History Q S M P) (spaces : Spaces P M) (paths : PerPath (Path K))
      → ((space : SpaceId) → SpaceAfter beginning.queue.words beginning.start ((logs_of beginning history).spaces space)
      (space_of space spaces)) → AreBalanced spaces paths → InFlightAfter (inputs_after beginning history) paths
  in_flight_law history spaces paths left balanced =
      let same : tracked_by spaces ≡ tracked_known (inputs_after beginning history) =
      fun_ext (λ space. ap (λ (s : SentState P M). s.tracked) (left space).sent) in
      record {
        current = rw (← same) balanced.current;
        previous = λ path is. rw (← same) (balanced.previous path is);
      }

  -- ---- the inputs

  pub known_same : (history : History Q S M P) (state : RecoveryState K P M) → LoggedStateAfter beginning history state
      → inputs_of state ≡ inputs_after beginning history
  known_same history state left =
      let n = ((inputs_after beginning history).spaces Data).sent.next in
      grind (
        arith,
        fun_ext spaces,
        (left.spaces Data).sent,
        number_at beginning.config.skips beginning.random n state.skipping left.skipping,
        last_at beginning.config.skips beginning.random n state.skipping left.skipping,
        left.frequency,
        held_same beginning.config.initial_cid history (remote_ids state.remote_cids) left.remote_ids,
        left.local_ids,
        fun_ext left.timers,
        left.paths,
        left.peer_limit,
      )
    where
      spaces : (space : SpaceId) → (inputs_of state).spaces space ≡ (inputs_after beginning history).spaces space
      spaces space =
          let here = left.spaces space in grind (arith, left.discarded space, here.acks.counts, here.sent, here.queued)

-- ---- one more event

module _ {F K Q S M P : Type 0} (beginning : Beginning F K Q S M P) where
  -- the steps, by the inputs from the history
  pub changes_by_logs : (history : History Q S M P) (old : RecoveryState K P M) (event : Event Q S M P)
      (reply : Reply Q)
      (new : RecoveryState K P M) → LoggedStateAfter beginning history old
      → StateTransition beginning.queue old event reply new
      → StateTransitionBy beginning.queue (inputs_after beginning history) old event reply new
  changes_by_logs history old event reply new left changes = rw (← known_same beginning history old left) changes

module _ {F K Q S M P : Type 0} (beginning : Beginning F K Q S M P) where
  -- the skips below the next number, with one more entry
  skipping_law : (entry : Option (SpaceEntry P M)) (log : List (SpaceEntry P M)) (n : ℕ) (old new : SkipState)
      → n ≡ (sent_by beginning.queue.words log).next
      → old ≡ skipping_at beginning.config.skips beginning.random (sent_by beginning.queue.words log).next
      → SkippingStep entry n old new
      → new ≡ skipping_at beginning.config.skips beginning.random
      (sent_by beginning.queue.words (onto entry log)).next
  skipping_law (Some (sends number packet)) log n old new next left step =
      (allocated beginning.config.skips beginning.random n number old new
      (left ∙ ap (skipping_at beginning.config.skips beginning.random) (sym next)) step.0 step.1).1
  skipping_law entry log n old new next left step = step ∙ left

  pub left_after : (history : History Q S M P) (event : Event Q S M P) (reply : Reply Q) (old new : RecoveryState K P M)
      → LoggedStateAfter beginning history old → StateTransitionBy beginning.queue
      (inputs_after beginning history) old event reply new
      → AreBalanced new.spaces new.paths → LoggedStateAfter beginning ((event, reply) ∷ history) new
  left_after history event reply old new left changes balanced =
      let entries = entries_of beginning.queue (inputs_after beginning history) event reply in
      let steps = changes.steps in
      let plain = plain_after beginning.queue old.settings.words (acks_to old) (inputs_after beginning history)
      beginning.config.max_ack_delay
      beginning.config.initial_cid (first_ids beginning) history event reply _ _
      (left.discarded, left.frequency, left.timers, left.peer_limit, left.remote_ids, left.local_ids)
      (sym (held_same _ history _ left.remote_ids))
      changes.told changes.plain in
      let spaces : (space : SpaceId) → SpaceAfter beginning.queue.words beginning.start
      ((logs_of beginning ((event, reply) ∷ history)).spaces space) (space_of space new.spaces) = λ space.
      left_by_entry (SpaceStep beginning.queue.words) (SpaceAfter beginning.queue.words beginning.start)
      (space_law beginning.queue.words beginning.start) (entries.spaces space) _ _ _
      (left.spaces space) (steps.spaces space) in
      record {
        settings = steps.settings ∙ left.settings;
        spaces = spaces;
        beside = λ space. untouched_stays beginning.queue.words (entries.spaces space) _ _ (steps.spaces space)
            ∙ left.beside space;
        discarded = plain.0;
        skipping = skipping_law (entries.spaces Data) ((logs_of beginning history).spaces Data) _ _ _
            (ap (λ (s : SentState P M). s.next) (left.spaces Data).sent) left.skipping
            steps.skipping;
        frequency = plain.1;
        timers = plain.2;
        remote_ids = plain.4;
        local_ids = plain.5;
        paths =
            paths_law (settings_of beginning) (first_path beginning) entries.paths _ _ _ left.paths
            (rw left.settings at steps.paths);
        peer_limit = plain.3;
        in_flight = in_flight_law beginning ((event, reply) ∷ history) new.spaces new.paths spaces balanced;
      }

-- ---- a fresh start

-- one path of generation 0, and spaces that track nothing
pub balanced_first : {K P M S : Type 0} {words : QueueSemantics P S} {start : ℕ} (spaces : Spaces P M) (path : Path K)
    (paths : PerPath (Path K)) → paths ≡ record { current = path; previous = None; made = generation_of path.ledger }
    → ((space : SpaceId) → IsMade words start (space_of space spaces)) → path.ledger ≡ fresh_ledger 0
    → AreBalanced spaces paths
balanced_first spaces path paths is made ledger =
    let none : (space : SpaceId) → tracking_of (space_of space spaces) ≡ no_packets = λ space. (made space).packets in
    rw is (fresh spaces path none (fresh_coherent spaces none (λ space. (made space).acks)) (ap counters_of ledger))

module _ {F K Q S M P : Type 0} (beginning : Beginning F K Q S M P) where
  -- the first path, when it was made
  pub paths_first : (path : Path K) (paths : PerPath (Path K))
      → paths ≡ record { current = path; previous = None; made = generation_of path.ledger }
      → path.ledger ≡ fresh_ledger 0 → path.state ≡ first_path beginning
      → PathsAfter (settings_of beginning) (first_path beginning) [] (paths_known paths)
  paths_first path paths is ledger state = grind (arith, is, ledger, state)
