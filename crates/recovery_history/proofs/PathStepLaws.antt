-- What an event does to the existing paths, and to the search on the one in use, is a step of them. The calls
-- `poll_mtu` and `discard` rest on it.
use Rattle.std.proofs.Common.{◌≡◌, ℕ, arith, ap, ◌∙◌, refl, Bool, true, false, MatchBool, [], ◌∷◌, None, Some, Ok, Err}
use Rattle.recovery_base.specs.declared.below.SpaceId.{SpaceId}
use Rattle.recovery_base.specs.declared.below.SpaceId.TheVariants.{Data}
use Rattle.recovery_spaces.specs.declared.discarded.DiscardedSpaces.{DiscardedSpaces}
use Rattle.recovery_spaces.specs.Discarded.{is_discarded, DiscardedStep}
use Rattle.recovery_spaces.specs.InFlight.{Overflows}
use Rattle.recovery_spaces.specs.Ledger.{tracked_by}
use Rattle.recovery_spaces.specs.Packets.{Packet, Packets}
use Rattle.recovery_spaces.specs.Paths.{PathLedger, generation_of, after_leaving}
use Rattle.recovery_spaces.specs.SpaceLog.{emptied}
use Rattle.recovery_spaces.specs.Spaces.{Space, space_of, with_space, space_discards}
use Rattle.recovery_spaces.specs.Tracked.{forgotten_by}
use Rattle.recovery_spaces.proofs.ReceivedLaws.{fails}
use Rattle.recovery_mtud.specs.Discovery.{Discovery, poll_of}
use Rattle.recovery_mtud.specs.DiscoveryLog.{polls, discovery_after}
use Rattle.recovery_paths.specs.PathPair.{on_ledger, ledger_without, paths_without}
use Rattle.recovery_paths.specs.PathLog.{PerPath, PathReplyInputs, path_known, paths_known, paths_marks, paths_after, path_known_with, known_following, on_current, tells}
use Rattle.recovery_paths.specs.PathStates.{Path, on_state, with_discovery}
use Rattle.recovery_events.specs.declared.event.Event.TheVariants.{DiscardSpace, PollMtu, Send}
use Rattle.recovery_events.specs.declared.event.Answer.{Answer}
use Rattle.recovery_congestion.specs.Calls.{sends as sends_bytes}
use Rattle.recovery_events.specs.declared.event.Answer.TheVariants.{Done, Sent, Probe}
use Rattle.recovery_events.specs.declared.event.Refusal.{Refusal}
use Rattle.recovery_events.specs.declared.event.Refusal.TheVariants.{NoMemory, NumberTooLarge, NumbersExhausted, SpaceDiscarded, Overflow}
use Rattle.recovery_history.specs.History.{QueueModel}
use Rattle.recovery_history.specs.ReplyInputs.{ReplyInputs, current_in_flight, number_in, packet_now}
use Rattle.recovery_history.specs.RecoveryState.{RecoveryState}
use Rattle.recovery_history.specs.Replies.{AnswersOrNoMemory, same_refusal}
use Rattle.recovery_history.specs.Transitions.{StateTransition, inputs_of}
use Rattle.recovery_history.proofs.CallerStateLaws.{previous_same, both_marks}
use Rattle.recovery_history.proofs.DriverLaws.{spaces_step, skips_nothing}

-- ---- packets leave the paths: the inputs from a path have no counters

-- packets that leave a path do not change its generation
generation_without : {P M : Type 0} (packets : Packets P M) (ledger : PathLedger)
    → generation_of (ledger_without packets ledger) ≡ generation_of ledger
generation_without [] ledger = refl
generation_without (entry ∷ packets) ledger = generation_without packets (after_leaving ledger entry.1)

module _ {K P M : Type 0} (packets : Packets P M) where
  -- the inputs from a path are unchanged
  known_without : (path : Path K) → path_known (on_ledger (ledger_without packets) path) ≡ path_known path
  known_without path = ap (λ g. record { generation = g; state = path.state }) (generation_without packets path.ledger)

  -- the inputs from all paths are unchanged
  pub paths_known_without : (paths : PerPath (Path K)) → paths_known (paths_without packets paths) ≡ paths_known paths
  paths_known_without paths = rw (
    known_without paths.current,
    previous_same path_known (on_ledger (ledger_without packets)) known_without paths.previous,
  ) refl

-- ---- a space is discarded

module _ {K Q S M P : Type 0} (q : QueueModel Q S M P) (old : RecoveryState K P M) (space : SpaceId) where
  -- its packets leave it and the paths, its retransmission queue is empty, and it is recorded as discarded
  pub discard_changes : (there : Space P M) (discarded : DiscardedSpaces) (paths : PerPath (Path K))
      → is_discarded space old.discarded ≡ false
      → there ≡ space_discards q.words (space_of space old.spaces) → DiscardedStep space old.discarded discarded
      → paths ≡ paths_without (tracked_by old.spaces space) old.paths
      → StateTransition {M = M} q old (DiscardSpace space) (Ok Done)
      (record old { spaces = with_space old.spaces space there; discarded = discarded; paths = paths })
  discard_changes there discarded paths live empty noted left = record {
    told = (fails _ live, refl);
    steps = record {
      settings = refl;
      spaces = spaces_step q.words emptied old.spaces space there empty;
      skipping = skips_nothing space emptied _ old.skipping refl;
      paths = ap (λ (p : PerPath (Path K)). paths_known p) left
          ∙ paths_known_without (tracked_by old.spaces space) old.paths;
    };
    plain = (noted, refl);
    marks = ap (λ (p : PerPath (Path K)). paths_marks p) left
        ∙ both_marks (on_ledger (ledger_without (tracked_by old.spaces space))) (λ path. refl)
        (paths_without (tracked_by old.spaces space) old.paths).current old.paths refl;
    refused = tt;
  }

-- ---- an MTU probe is sent

-- causes of errors in their order, of which the second does not hold, are the others in theirs
module _ (First Second Third Fourth One Other : Type 0) (none : ¬ Second) (alike : One → Other) where
  pub but_second : (first second third fourth : Bool)
      → MatchBool first First ((¬ First) × MatchBool second Second
      ((¬ Second) × MatchBool third Third ((¬ Third) × MatchBool fourth Fourth ((¬ Fourth) × One))))
      → MatchBool first First
      ((¬ First) × MatchBool third Third ((¬ Third) × MatchBool fourth Fourth ((¬ Fourth) × Other)))
  but_second first second third fourth is = grind (arith, none, alike)

-- lack of memory is an error whatever the answer is
refused_alike : {Q : Type 0} (Grows : Type 0) (One Other : Answer Q → Type 0) (refusal : Refusal)
    → AnswersOrNoMemory Grows One (Err refusal) → AnswersOrNoMemory Grows Other (Err refusal)
refused_alike Grows One Other NoMemory is = is
refused_alike Grows One Other other is = is

module _ {K Q S M P : Type 0} (q : QueueModel Q S M P) (old then : RecoveryState K P M) (now size : ℕ) (queue : Q)
    (frames : M) (empty : q.contents queue ≡ q.words.empty) (blank : frames ≡ q.blank)
    (due : poll_of now old.paths.current.state.discovery ≡ Some size) where
  abbrev known : ReplyInputs K P M
  known = inputs_of old

  -- a probe has no contents
  abbrev probe : Packet P M
  probe = packet_now known now size true None q.words.empty q.blank

  -- if the probe cannot be sent the event fails in the same way
  pub probe_refused : (refusal : Refusal) → StateTransition {M = M} q old (Send Data now size true None queue frames)
      (Err refusal) then → StateTransition {M = M} q old (PollMtu now) (Err refusal) then
  probe_refused refusal sent =
      let sent_as : Answer Q =
      Sent (number_in known Data) (forgotten_by (known.spaces Data).sent (probe)) in
      record {
        told = rw due (but_second _ _ _ (Overflows (current_in_flight known) probe) _ _ (λ large. large)
            (refused_alike (Unit {0}) (λ answer. answer ≡ sent_as) (λ answer. answer ≡ Probe known.next_number size)
            refusal)
            (same_refusal refusal SpaceDiscarded) (same_refusal refusal NumberTooLarge)
            (same_refusal refusal NumbersExhausted) (same_refusal refusal Overflow)
            sent.told);
        steps = sent.steps;
        plain = sent.plain;
        marks = sent.marks;
        refused = sent.refused;
      }

  -- after it was sent the search continues from where it was asked
  pub probe_changes : (number : ℕ) (discovery : Discovery) (path : Path K) (answer : Answer Q)
      → number ≡ number_in known Data → discovery ≡ discovery_after (polls now number) old.paths.current.state.discovery
      → path ≡ on_state (with_discovery discovery) then.paths.current
      → StateTransition {M = M} q old (Send Data now size true None queue frames) (Ok answer) then
      → StateTransition {M = M} q old (PollMtu now) (Ok (Probe number size))
      (record then { paths = record then.paths { current = path } })
  probe_changes number discovery path answer is polled extends sent =
      let steps = rw (empty, blank) at sent.steps in
      let fits = sent.told.1.1.1 in
      let told : PerPath (PathReplyInputs K) = paths_after (path_known_with old.settings) (known_following old.settings)
      (on_current (tells (sends_bytes now size (number_in known Data))) ∷ []) (paths_known old.paths) in
      let seen : Discovery → PerPath (PathReplyInputs K) → PerPath (PathReplyInputs K) = λ found all. record all
      { current = record all.current { state = with_discovery found all.current.state } } in
      record {
        told = (
          sent.told.0,
          (
            sent.told.1.1.0,
            rw due (
              fits.0,
              ap (λ n. Probe n size) is,
            ),
          ),
        );
        steps = record {
          settings = steps.settings;
          spaces = steps.spaces;
          skipping = steps.skipping;
          paths = rw extends (ap (seen discovery) steps.paths ∙ ap (λ found. seen found told) polled);
        };
        plain = sent.plain;
        marks = rw extends sent.marks;
        refused = tt;
      }
