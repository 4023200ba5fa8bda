-- A packet that is acknowledged or lost leaves its path, and is reported to the MTU search. The call `acked` rests on
-- it.
use Rattle.std.proofs.Common.{◌≡◌, ℕ, Bool, true, false, cond, ◌&&◌, ◌==◌, [], ◌∷◌, ◌++◌, Option, Some, option_map, Ok, refl, ap, ◌∙◌}
use Rattle.recovery_base.specs.declared.below.SpaceId.{SpaceId}
use Rattle.recovery_base.specs.declared.below.SpaceId.TheVariants.{Data}
use Rattle.recovery_base.specs.Spaces.{same_space}
use Rattle.recovery_congestion.specs.Calls.{acks, takes_mtu}
use Rattle.recovery_spaces.specs.Discarded.{is_discarded}
use Rattle.recovery_spaces.specs.Ledger.{tracked_by}
use Rattle.recovery_spaces.specs.Packets.{Packet, packet_at}
use Rattle.recovery_spaces.specs.Paths.{generation_of}
use Rattle.recovery_spaces.specs.SpaceLog.{acknowledged}
use Rattle.recovery_spaces.specs.Spaces.{Space, space_of, with_space, SpaceAcked}
use Rattle.recovery_spaces.proofs.ReceivedLaws.{fails}
use Rattle.recovery_mtud.specs.DiscoveryLog.{MtuCall, acks as acks_packet}
use Rattle.recovery_paths.specs.PathPair.{path_left_by, paths_acking}
use Rattle.recovery_paths.specs.PathLog.{PerPath, PathReplyInputs, PathsStep, paths_after, path_known_with, known_following, paths_known, path_known, paths_marks, on_current, tells, searches}
use Rattle.recovery_paths.specs.PathStates.{Path, PathState, after_telling, after_searching, is_path_probe}
use Rattle.recovery_events.specs.declared.event.Event.TheVariants.{Acked}
use Rattle.recovery_events.specs.declared.event.Answer.TheVariants as answer
use Rattle.recovery_history.specs.Entries.{acked_entry, acked_search}
use Rattle.recovery_history.specs.History.{QueueModel}
use Rattle.recovery_history.specs.RecoveryState.{RecoveryState}
use Rattle.recovery_history.specs.Transitions.{StateTransition, inputs_of}
use Rattle.recovery_history.proofs.CallerStateLaws.{previous_same, both_marks}
use Rattle.recovery_history.proofs.DriverLaws.{space_changes, skips_nothing}

module _ {K P M : Type 0} (old : RecoveryState K P M) (space : SpaceId) (number : ℕ) (packet : Packet P M) where
  abbrev with_previous : PathReplyInputs K → Option (PathReplyInputs K) → PerPath (PathReplyInputs K)
  with_previous current previous =
      record { current = current; previous = previous; made = old.paths.made }

  -- the entries of an acknowledged packet are what its path does: the search first, then the controller
  pub acked_path : (now : ℕ) (app_limited : Bool)
      → PathsStep old.settings (acked_entry (inputs_of old) now app_limited (Some packet)
      ++ acked_search (inputs_of old) space number (Some packet)) (paths_known old.paths)
      (paths_known (paths_acking old.settings.words space number now app_limited packet old.paths))
  acked_path now app_limited =
      ap (with_previous _) (previous_same path_known (path_left_by packet) (λ path. refl) old.paths.previous)
      ∙ go (packet.path_generation == generation_of old.paths.current.ledger && packet.ack_eliciting)
      (same_space space Data)
      (is_path_probe space number old.paths.current.state)
    where
      call : MtuCall
      call = acks_packet number packet.size

      path : Path K
      path = old.paths.current

      seen : PathState K
      seen = after_searching call path.state

      after : Bool → PathState K
      after probe = cond probe (after_telling old.settings.words (takes_mtu seen.discovery.mtu) seen) seen

      told : PathState K → PathState K
      told state = after_telling old.settings.words (acks now packet.time_sent packet.size app_limited state.rtt) state

      go : (own in_data probe : Bool) → let searched = cond in_data (after probe) path.state in
          let known : PerPath (PathReplyInputs K) = record {
            current =
                record { generation = generation_of path.ledger; state = cond own (told searched) searched };
            previous = option_map path_known old.paths.previous;
            made = old.paths.made;
          } in
          known ≡ paths_after (path_known_with old.settings) (known_following old.settings)
          (cond own (on_current (tells (acks now packet.time_sent packet.size app_limited path.state.rtt)) ∷ []) []
          ++ cond in_data (cond probe (on_current (tells (takes_mtu seen.discovery.mtu)) ∷ on_current (searches call) ∷
          []) (on_current (searches call) ∷ [])) []) (paths_known old.paths)
      go true true true = refl
      go false true true = refl
      go own in_data probe = refl

-- ---- the events

module _ {K Q S M P : Type 0} (q : QueueModel Q S M P) (old : RecoveryState K P M) (space : SpaceId) (number : ℕ)
    (packet : Packet P M) (there : Space P M) (paths : PerPath (Path K)) (probe : Bool)
    (live : is_discarded space old.discarded ≡ false) (found : packet_at (tracked_by old.spaces space) number
    ≡ Some packet) (is_probe : probe ≡ is_path_probe space number old.paths.current.state) where
  pub acked_changes : (now : ℕ) (app_limited : Bool) → SpaceAcked number (space_of space old.spaces) there
      → paths ≡ paths_acking old.settings.words space number now app_limited packet old.paths
      → StateTransition {M = M} q old (Acked space now number app_limited) (Ok (answer.Acked probe))
      (record old { spaces = with_space old.spaces space there; paths = paths })
  acked_changes now app_limited step is =
      record {
        told = (
          fails _ live,
          ((λ none. absurd cc), ap (λ b. answer.Acked b) is_probe),
        );
        steps = space_changes q.words old space (acknowledged number) there old.skipping _ paths step
            (skips_nothing space _ _ _ refl)
            (rw found (ap (λ (p : PerPath (Path K)). paths_known p) is
            ∙ acked_path old space number packet now app_limited));
        plain = refl;
        marks = ap (λ (p : PerPath (Path K)). paths_marks p) is
            ∙ both_marks (path_left_by packet) (λ path. refl)
            (paths_acking old.settings.words space number now app_limited
            packet old.paths).current old.paths refl;
        refused = tt;
      }
