-- The paths stay consistent with what the spaces track, whatever happens to a packet, a space or a path. The invariant
-- of `Recovery`, and so each of its calls, rests on it.
use Rattle.std.proofs.Common.{◌≡◌, ℕ, ◌+◌, ◌<◌, ◌≤◌, Bool, [], ◌∷◌, Option, None, Some, option_map, refl, ap, subst, arith}
use Rattle.std.proofs.lemmas.Iterator.Adapters.{option_map_id}
use Rattle.std.proofs.lemmas.Option.{none-some}
use Rattle.std.specs.Option.{option_map_or}
use Rattle.recovery_base.specs.declared.below.SpaceId.{SpaceId}
use Rattle.recovery_congestion.specs.Controllers.{ControllerSemantics}
use Rattle.recovery_spaces.specs.Ledger.{tracked_by, IsBalancedOn, AreCoherent}
use Rattle.recovery_spaces.specs.Packets.{IsAmong, Packet, Packets, Tracking, no_packets, packet_at, without, with_contents, forgotten_entry, IsTooLarge, after_sending}
use Rattle.recovery_spaces.specs.Paths.{PathLedger, generation_of, counters_of, fresh_ledger, after_leaving, after_forgetting}
use Rattle.recovery_spaces.specs.Probes.{ProbeFound}
use Rattle.recovery_spaces.specs.Spaces.{Space, Spaces, space_of, with_space, tracking_of, packets_of, next_number_of, HasGreatestCome, IsCoherent, one_probe_more, space_finds, space_probes}
use Rattle.recovery_spaces.proofs.AmongLaws.{OfAll, all_without, all_sent, all_carrying}
use Rattle.recovery_spaces.proofs.CoherentLaws.{coherent_sent, coherent_probed}
use Rattle.recovery_spaces.proofs.SpaceLaws.{each_with}
use Rattle.recovery_spaces.specs.InFlight.{IsCountedIn}
use Rattle.recovery_spaces.proofs.LedgerLaws.{Follows, carrying_follows, lost_follows, forgotten_counted, sent_follows, first_leaves, space_counted, balanced_by, none_balanced}
use Rattle.recovery_paths.proofs.PathLogLaws.{for_changed}
use Rattle.recovery_paths.specs.Balance.{AreBalanced}
use Rattle.recovery_paths.specs.declared.path_pair.PathName.{PathName}
use Rattle.recovery_paths.specs.declared.path_pair.PathName.TheVariants.{Current, Previous}
use Rattle.recovery_paths.specs.PathPair.{on_ledger, ledger_without, IsCountedOnEach, AreCountedOnEach, CanTrackOn, paths_after_sending, path_left_by, paths_without, paths_losing, paths_acking}
use Rattle.recovery_paths.specs.PathLog.{PerPath, on_path_of, moved_to, reverted}
use Rattle.recovery_paths.specs.PathStates.{PathState, Path, on_state, path_lost}
use Rattle.recovery_queue.specs.Queues.{QueueSemantics}

-- all packets of a space leave, one after another
emptied_follows : {P M : Type 0} (ledger : PathLedger) (packets : Packets P M)
    → IsCountedIn (counters_of ledger) (generation_of ledger) packets
    → Follows ledger packets [] (ledger_without packets ledger)
emptied_follows ledger [] counted = grind arith
emptied_follows ledger (entry ∷ packets) counted =
    let first = first_leaves ledger entry packets counted in
    grind (arith, first, emptied_follows (after_leaving ledger entry.1) packets first.1)

module _ {K P M : Type 0} (spaces : Spaces P M) (paths : PerPath (Path K)) (balanced : AreBalanced spaces paths) where
  abbrev ledger : PathLedger
  ledger = paths.current.ledger

  -- anything but a path's ledger changes
  pub on_state_kept : (name : PathName) (change : PathState K → PathState K)
      → AreBalanced spaces (on_path_of name (on_state change) paths)
  on_state_kept Current change = grind (arith, balanced)
  on_state_kept Previous change =
      let each = for_changed (λ path. IsBalancedOn spaces path.ledger
      × (generation_of path.ledger < generation_of ledger)) (on_state change) paths.previous
      (λ path is. (balanced.previous path is, balanced.older path is)) in
      grind (arith, balanced, each)

  -- another path is used, with a new generation
  pub moved : (path : Path K) → path.ledger ≡ fresh_ledger (paths.made + 1) → AreBalanced spaces (moved_to path paths)
  moved path fresh =
      let next : generation_of path.ledger ≡ paths.made + 1 =
      ap (λ (l : PathLedger). generation_of l) fresh in
      grind (
        arith,
        balanced,
        next,
        none_balanced path.ledger spaces
            (λ space packet among same. absurd (omega (arith, balanced.up_to space packet among, same, next)))
            (ap (λ (l : PathLedger). counters_of l) fresh),
      )

  -- the previous path is used again, with its own ledger
  pub returned : (change : PathState K → PathState K) → AreBalanced spaces (reverted (on_state change) paths)
  returned change = go paths.previous refl
    where
      go : (previous : Option (Path K)) → paths.previous ≡ previous
          → AreBalanced spaces (option_map_or (λ path. record paths { current = on_state change path; previous = None })
          previous paths)
      go None is = balanced
      go (Some path) is = record {
        current = balanced.previous path is;
        previous = λ other is. absurd (none-some _ is);
        older = λ other is. absurd (none-some _ is);
        given = omega (arith, balanced.older path is, balanced.given);
        up_to = balanced.up_to;
        coherent = balanced.coherent;
      }

  module _ (space : SpaceId) where
    abbrev before : Space P M
    before = space_of space spaces

    abbrev all : Packets P M
    all = packets_of before

    abbrev Is : Packet P M → Type 0
    Is packet = packet.path_generation ≤ paths.made

    -- the packets of a space change, and the counters of each path by as much
    changed : (here : Space P M) (now : Path K) (change : Path K → Path K)
        → Follows ledger all (packets_of here) now.ledger
        → ((path : Path K) → paths.previous ≡ Some path
        → Follows path.ledger all (packets_of here) (change path).ledger)
        → OfAll Is (packets_of here) → IsCoherent here
        → AreBalanced (with_space spaces space here) (let both : PerPath (Path K) = record paths {
          current = now;
          previous = option_map change paths.previous;
        } in both)
    changed here now change follows earlier up_to coherent =
        let each = for_changed (λ path. IsBalancedOn (with_space spaces space here) path.ledger
        × (generation_of path.ledger < generation_of now.ledger)) change paths.previous (λ path is. (
          balanced_by spaces path.ledger (balanced.previous path is) space here _ (earlier path is),
          omega (arith, balanced.older path is, (earlier path is).generation, follows.generation),
        )) in
        record {
          current = balanced_by spaces ledger balanced.current space here now.ledger follows;
          previous = λ path is. (each path is).0;
          older = λ path is. (each path is).1;
          given = omega (arith, balanced.given, follows.generation);
          up_to = each_with (λ (s : Space P M). OfAll Is (packets_of s)) spaces space here balanced.up_to up_to;
          coherent = each_with IsCoherent spaces space here balanced.coherent coherent;
        }

    -- nothing that is counted changes
    staying : (here : Space P M) → ((path : PathLedger) → Follows path all (packets_of here) path)
        → OfAll Is (packets_of here) → IsCoherent here → AreBalanced (with_space spaces space here) paths
    staying here follows up_to coherent =
        rw (← option_map_id paths.previous)
        (changed here paths.current (λ path. path) (follows ledger) (λ path is. follows path.ledger) up_to coherent)

    -- other parts of a space change
    pub kept : (here : Space P M) → packets_of here ≡ all → IsCoherent here
        → AreBalanced (with_space spaces space here) paths
    kept here same = staying here (λ path. rw same (grind arith)) (rw same (balanced.up_to space))

    each_counted : AreCountedOnEach paths all
    each_counted = (
      space_counted spaces ledger balanced.current space,
      λ path is. space_counted spaces path.ledger (balanced.previous path is) space,
    )

    -- ---- a packet is sent on the path in use

    pub can_track : (number : ℕ) (packet : Packet P M) → packet.path_generation ≡ generation_of ledger
        → next_number_of before ≤ number → CanTrackOn paths number packet before
    can_track number packet own above =
        let coherent : IsCoherent before = balanced.coherent space in
        record {
          current = record {
            above = λ n p found. omega (arith, coherent.packets n p found, above);
            above_last = λ n is. omega (arith, coherent.last n is, above);
            own = own;
            counted = forgotten_counted ledger all each_counted.0 _ packet;
          };
          previous = λ path is. forgotten_counted path.ledger all (each_counted.1 path is) _ packet;
        }

    pub paths_balanced_sent : (number : ℕ) (packet : Packet P M) (here : Space P M)
        → packet.path_generation ≡ generation_of ledger → next_number_of before ≤ number
        → (¬ IsTooLarge packet.largest_acked) → tracking_of here ≡ after_sending number packet (tracking_of before)
        → next_number_of here ≡ number + 1 → HasGreatestCome here
        → AreBalanced (with_space spaces space here)
        (paths_after_sending packet (forgotten_entry packet (tracking_of before)) paths)
    paths_balanced_sent number packet here own above small tracking next received =
        let last = (tracking_of before).last_eliciting in
        changed here _ (on_ledger (λ path. after_forgetting path (forgotten_entry packet (tracking_of before))))
        (rw tracking ((sent_follows ledger all each_counted.0 last packet number).0 own))
        (λ path is. rw tracking ((sent_follows path.ledger all (each_counted.1 path is) last packet number).1
        (λ same. absurd (omega (arith, balanced.older path is, same, own)))))
        (rw tracking (all_sent Is last number packet all (balanced.up_to space) (omega (arith, own, balanced.given))))
        (coherent_sent before here (balanced.coherent space) received number packet above small tracking next)

    -- ---- a packet is acknowledged or lost

    -- one that is lost is counted on its path, if that exists, as it is returned
    pub lost_counted_on : (number : ℕ) (contents : P) (packet : Packet P M)
        → option_map (with_contents contents) (packet_at all number) ≡ Some packet → IsCountedOnEach paths packet
    lost_counted_on number contents packet handed = (
      (lost_follows ledger all each_counted.0 number contents packet handed).0,
      λ path is. (lost_follows path.ledger all (each_counted.1 path is) number contents packet handed).0,
    )

    -- and so is a tracked one
    pub counted : (number : ℕ) (packet : Packet P M) → packet_at all number ≡ Some packet
        → IsCountedOnEach paths packet
    counted number packet found = lost_counted_on number packet.retransmits packet (rw found refl)

    module _ (number : ℕ) (packet : Packet P M) (here : Space P M) where
      pub paths_balanced_lost : (contents : P)
          → option_map (with_contents contents) (packet_at all number) ≡ Some packet
          → packets_of here ≡ without all number → IsCoherent here
          → AreBalanced (with_space spaces space here) (paths_losing space number packet paths)
      paths_balanced_lost contents handed packets =
          changed here (path_lost space number packet paths.current) (path_left_by packet)
          (rw packets (lost_follows ledger all each_counted.0 number contents packet handed).1)
          (λ path is. rw packets (lost_follows path.ledger all (each_counted.1 path is) number contents packet
          handed).1)
          (rw packets (all_without Is all number (balanced.up_to space)))

      pub paths_balanced_acked : packet_at all number ≡ Some packet → packets_of here ≡ without all number
          → IsCoherent here → (words : ControllerSemantics K) (now : ℕ) (app_limited : Bool)
          → AreBalanced (with_space spaces space here) (paths_acking words space number now app_limited packet paths)
      paths_balanced_acked found packets coherent words now app_limited =
          grind (arith, paths_balanced_lost packet.retransmits (rw found refl) packets coherent)

    -- ---- a probe is requested, or a space is emptied

    pub emptied : (here : Space P M) → packets_of here ≡ [] → IsCoherent here
        → AreBalanced (with_space spaces space here) (paths_without all paths)
    emptied here none =
        changed here _ (on_ledger (ledger_without all)) (rw none (emptied_follows ledger all each_counted.0))
        (λ path is. rw none (emptied_follows path.ledger all (each_counted.1 path is)))
        (rw none (λ packet among. absurd among))

  pub probed : {S : Type 0} → (words : QueueSemantics P S) (space : SpaceId) (immediate : Bool) (found : ProbeFound)
      → AreBalanced (with_space spaces space (space_probes words immediate found
      (one_probe_more (space_of space spaces)))) paths
  probed words space immediate found =
      staying space (space_probes words immediate found (one_probe_more (space_of space spaces)))
      (λ path. (go found.moved).0 path) (go found.moved).1
      (coherent_probed words (space_of space spaces) (balanced.coherent space) immediate found.nothing found.moved)
    where
      go : (moved : Option ℕ)
          → (let packets = packets_of (space_finds words moved (one_probe_more (space_of space spaces))) in
          ((path : PathLedger) → Follows path (all space) packets path) × OfAll (Is space) packets)
      go (Some number) = (
        λ path. carrying_follows path (all space) number words.empty,
        all_carrying (Is space) (all space) number words.empty (λ packet holds. holds) (balanced.up_to space),
      )
      go None = (λ path. grind arith, balanced.up_to space)

-- ---- a fresh start

-- one path, on which nothing is in flight, and spaces that track nothing
pub fresh : {K P M : Type 0} (spaces : Spaces P M) (path : Path K)
    → ((space : SpaceId) → tracking_of (space_of space spaces) ≡ no_packets) → AreCoherent spaces
    → counters_of path.ledger ≡ record { bytes = 0; ack_eliciting = 0 }
    → AreBalanced spaces
    (let all : PerPath (Path K) = record { current = path; previous = None; made = generation_of path.ledger } in all)
fresh {P = P} {M} spaces path none coherent zero =
    let nothing : (space : SpaceId) (packet : Packet P M) → IsAmong (tracked_by spaces space) packet → ⊥ =
    λ space packet among. subst (λ (t : Tracking P M). IsAmong t.packets packet) (none space) among in
    record {
      current = none_balanced path.ledger spaces (λ space packet among. absurd (nothing space packet among)) zero;
      previous = λ other is. absurd (none-some _ is);
      older = λ other is. absurd (none-some _ is);
      given = omega arith;
      up_to = λ space packet among. absurd (nothing space packet among);
      coherent = coherent;
    }
