-- A packet that is sent: it may be tracked, the balance of the paths is preserved, and each part changes by its step.
-- The call `send` rests on it.
use Rattle.recovery_spaces.specs.SpaceLog.{sends}
use Rattle.recovery_history.specs.Entries.{here}
use Rattle.std.proofs.Common.{◌≡◌, ℕ, ◌<◌, ◌≤◌, ◌^◌, Bool, false, Option, option_map, Ok, refl, sym, ap, subst, ◌∙◌, arith}
use Rattle.recovery_base.specs.declared.below.SpaceId.{SpaceId}
use Rattle.recovery_congestion.specs.Calls.{sends as sends_bytes}
use Rattle.recovery_spaces.specs.Discarded.{is_discarded}
use Rattle.recovery_spaces.specs.InFlight.{Overflows}
use Rattle.recovery_spaces.specs.Packets.{Packet, entry_number, forgotten_entry, IsTooLarge}
use Rattle.recovery_spaces.specs.Paths.{generation_of, counters_of, after_forgetting}
use Rattle.recovery_spaces.specs.Spaces.{Space, Spaces, space_of, with_space, tracking_of, packets_of, next_number_of, space_sends}
use Rattle.recovery_spaces.specs.Tracked.{packet_sent}
use Rattle.recovery_spaces.specs.declared.paths.InFlight.{InFlight}
use Rattle.recovery_spaces.proofs.PacketLaws.{entry_number_of}
use Rattle.recovery_paths.specs.Balance.{AreBalanced}
use Rattle.recovery_paths.specs.PathPair.{on_ledger, paths_after_sending}
use Rattle.recovery_paths.specs.PathLog.{PerPath, PathReplyInputs, on_path_of, path_known, paths_known, paths_marks}
use Rattle.recovery_paths.specs.PathStates.{PathState, Path, on_state, after_telling}
use Rattle.recovery_paths.specs.declared.path_pair.PathName.TheVariants.{Current}
use Rattle.recovery_paths.proofs.BalanceLaws.{paths_balanced_sent}
use Rattle.recovery_packet_numbers.specs.Filters.{SkipState}
use Rattle.recovery_events.specs.declared.event.Answer.TheVariants.{Sent}
use Rattle.recovery_events.specs.declared.event.Event.TheVariants.{Send}
use Rattle.recovery_history.specs.History.{QueueModel}
use Rattle.recovery_history.specs.ReplyInputs.{number_in}
use Rattle.recovery_history.specs.Numbers.{number_behind, skipping_behind}
use Rattle.recovery_history.specs.RecoveryState.{RecoveryState}
use Rattle.recovery_history.specs.Transitions.{StateTransition, inputs_of}
use Rattle.recovery_history.proofs.CallerStateLaws.{previous_same, both_marks}
use Rattle.recovery_history.proofs.DriverLaws.{space_changes}
use Rattle.recovery_history.proofs.NumberLaws.{number_above, number_known, number_skips}

-- the paths after a packet was sent, and perhaps another forgotten for it, with the report to the controller
abbrev pub paths_telling : {K P M : Type 0} → Packet P M → Space P M → (PathState K → PathState K) → PerPath (Path K)
    → PerPath (Path K)
paths_telling packet there change paths =
    on_path_of Current (on_state change) (paths_after_sending packet (forgotten_entry packet (tracking_of there)) paths)

module _ {K P M : Type 0} (spaces : Spaces P M) (paths : PerPath (Path K)) (balanced : AreBalanced spaces paths)
    (space : SpaceId) (number : ℕ) (packet : Packet P M) (own : packet.path_generation
    ≡ generation_of paths.current.ledger) (above : next_number_of (space_of space spaces) ≤ number) where
  pub sent_balanced : (here : Space P M) (then : PerPath (Path K)) → (¬ IsTooLarge packet.largest_acked)
      → here ≡ space_sends number packet (space_of space spaces)
      → then ≡ paths_after_sending packet (forgotten_entry packet (tracking_of (space_of space spaces))) paths
      → AreBalanced (with_space spaces space here) then
  sent_balanced here then small is counts =
      rw counts (paths_balanced_sent spaces paths balanced space number packet here own above small
      (ap tracking_of is) (ap next_number_of is) (rw is (balanced.coherent space).received))

-- the inputs from the paths then: the controller got the report
module _ {K P M : Type 0} (packet : Packet P M) (there : Space P M) (change : PathState K → PathState K)
    (paths : PerPath (Path K)) where
  abbrev forgotten : Option (ℕ × Packet P M)
  forgotten = forgotten_entry packet (tracking_of there)

  abbrev known_as : ℕ → Option (PathReplyInputs K) → PerPath (PathReplyInputs K)
  known_as generation previous = record {
    current = record { generation = generation; state = change paths.current.state };
    previous = previous;
    made = paths.made;
  }

  pub telling_known : paths_known (paths_telling packet there change paths)
      ≡ known_as (generation_of paths.current.ledger) (option_map path_known paths.previous)
  telling_known = ap (known_as (generation_of paths.current.ledger))
      (previous_same path_known (on_ledger (λ ledger. after_forgetting ledger forgotten)) (λ path. refl) paths.previous)

  -- the caller's marks of the paths are unchanged
  pub telling_marks : paths_marks (paths_telling packet there change paths) ≡ paths_marks paths
  telling_marks = both_marks (on_ledger (λ ledger. after_forgetting ledger forgotten)) (λ path. refl)
      (paths_telling packet there change paths).current paths refl

-- the event
module _ {K Q S M P : Type 0} (q : QueueModel Q S M P) (old : RecoveryState K P M)
    (balanced : AreBalanced old.spaces old.paths) (space : SpaceId) (now size : ℕ) (ack_eliciting : Bool)
    (largest_acked : Option ℕ) (queue : Q) (frames : M)
    (live : is_discarded space old.discarded ≡ false) (small : ¬ IsTooLarge largest_acked) where
  abbrev packet_at_generation : ℕ → Packet P M
  packet_at_generation generation =
      packet_sent generation now size ack_eliciting largest_acked (q.contents queue) frames

  abbrev here_then : Space P M
  here_then = space_of space old.spaces

  pub send_changes : (generation number : ℕ) (there : Space P M) (skipping : SkipState) (paths : PerPath (Path K))
      (forgotten : Option ℕ)
      → generation ≡ generation_of old.paths.current.ledger
      → number ≡ number_behind old.skipping.filter space (next_number_of here_then) → number < 2 ^ 62
      → (¬ Overflows (counters_of old.paths.current.ledger) (packet_at_generation generation))
      → forgotten ≡ entry_number (forgotten_entry (packet_at_generation generation) (tracking_of here_then))
      → there ≡ space_sends number (packet_at_generation generation) here_then
      → skipping ≡ skipping_behind space (next_number_of here_then) old.skipping
      → paths ≡ paths_telling (packet_at_generation generation) here_then
      (after_telling old.settings.words (sends_bytes now size number)) old.paths
      → StateTransition q old (Send space now size ack_eliciting largest_acked queue frames)
      (Ok (Sent number forgotten))
      (record old { spaces = with_space old.spaces space there; skipping = skipping; paths = paths })
  send_changes generation number there skipping paths forgotten own is left fits gone step draws told =
      let packet = packet_at_generation (generation_of old.paths.current.ledger) in
      let Fits : InFlight → Type 0 = λ f. ¬ Overflows f packet in
      let is_known = is ∙ number_known old space in
      let above = number_above old.skipping.filter space (next_number_of here_then) in
      let now_known = number_in (inputs_of old) space in
      let last = (tracking_of here_then).last_eliciting in
      let is_forgotten = gone ∙ entry_number_of last packet (packets_of here_then) in
      let fitting = subst Fits balanced.current fits in
      record {
        told = grind (arith, live, small, left, fitting, is_known, is_forgotten);
        steps = space_changes q.words old space (sends now_known packet) there skipping _ paths (
          omega (arith, above, is, is_known),
          (rw own at step) ∙ ap (λ (n : ℕ). space_sends n packet here_then) is_known,
        )
            (number_skips old.spaces space now_known packet old.skipping skipping
            (sym (number_known old space)) draws)
            (rw (told, is_known) (telling_known (packet_at_generation generation) here_then
            (after_telling old.settings.words (sends_bytes now size (number_in (inputs_of old) space))) old.paths));
        plain = refl;
        marks = ap (λ (p : PerPath (Path K)). paths_marks p) told
            ∙ telling_marks packet here_then (after_telling old.settings.words (sends_bytes now size number)) old.paths;
        refused = tt;
      }
