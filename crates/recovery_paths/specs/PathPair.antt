-- What is in flight on the existing paths, when packets are sent and leave (RFC 9002, B.2).
use Rattle.std.specs.Prelude.{ℕ, Bool, [], ◌∷◌, Option, option_map}
use Rattle.std.specs.Option.{ForSome}
use Rattle.recovery_base.specs.declared.below.SpaceId.{SpaceId}
use Rattle.recovery_congestion.specs.Controllers.{ControllerSemantics}
use Rattle.recovery_spaces.specs.InFlight.{IsCountedIn}
use Rattle.recovery_spaces.specs.Packets.{Packet, Packets, forgotten_entry}
use Rattle.recovery_spaces.specs.Paths.{PathLedger, generation_of, counters_of, after_leaving, after_forgetting, path_after_sending, IsCountedOn, CanTrack}
use Rattle.recovery_spaces.specs.Spaces.{Space, tracking_of}
use Rattle.recovery_paths.specs.PathLog.{PerPath, OnEachPath, each_path}
use Rattle.recovery_paths.specs.PathStates.{Path, path_acked, path_lost}

module _ {K : Type 0} where
  abbrev pub on_ledger : (PathLedger → PathLedger) → Path K → Path K
  on_ledger change path = record path { ledger = change path.ledger }

-- packets leave a path, one after another
abbrev pub ledger_without : {P M : Type 0} → Packets P M → PathLedger → PathLedger
ledger_without [] ledger = ledger
ledger_without (entry ∷ packets) ledger = ledger_without packets (after_leaving ledger entry.1)

module _ {K P M : Type 0} where
  -- ---- what callers must guarantee

  -- the packet is counted on its path, if that exists
  abbrev pub IsCountedOnEach : PerPath (Path K) → Packet P M → Type 0
  IsCountedOnEach paths packet = OnEachPath (λ path. IsCountedOn path.ledger packet) paths

  -- and so are all packets of a space
  abbrev pub AreCountedOnEach : PerPath (Path K) → Packets P M → Type 0
  AreCountedOnEach paths packets =
      OnEachPath (λ path. IsCountedIn (counters_of path.ledger) (generation_of path.ledger) packets) paths

  -- a packet may be tracked for the path in use, and one that is forgotten for it is counted on its path
  pub record CanTrackOn (paths : PerPath (Path K)) (number : ℕ) (packet : Packet P M) (space : Space P M) : Type 0 where
    pub current : CanTrack paths.current.ledger number packet space
    pub previous : ForSome paths.previous (λ path.
        ForSome (forgotten_entry packet (tracking_of space)) (λ entry. IsCountedOn path.ledger entry.1))

  -- ---- what is in flight afterwards

  -- a packet is sent on the path in use, and perhaps another is forgotten
  abbrev pub paths_after_sending : Packet P M → Option (ℕ × Packet P M) → PerPath (Path K) → PerPath (Path K)
  paths_after_sending packet forgotten paths = record paths {
    current = on_ledger (λ ledger. path_after_sending ledger packet forgotten) paths.current;
    previous = option_map (on_ledger (λ ledger. after_forgetting ledger forgotten)) paths.previous;
  }

  -- a packet leaves its path
  abbrev pub path_left_by : Packet P M → Path K → Path K
  path_left_by packet = on_ledger (λ ledger. after_leaving ledger packet)

  -- all packets of a space leave
  abbrev pub paths_without : Packets P M → PerPath (Path K) → PerPath (Path K)
  paths_without packets paths = each_path (on_ledger (ledger_without packets)) paths

  -- a packet is lost
  abbrev pub paths_losing : SpaceId → ℕ → Packet P M → PerPath (Path K) → PerPath (Path K)
  paths_losing space number packet paths = record paths {
    current = path_lost space number packet paths.current;
    previous = option_map (path_left_by packet) paths.previous;
  }

  -- a packet is acknowledged
  abbrev pub paths_acking : ControllerSemantics K → SpaceId → ℕ → ℕ → Bool → Packet P M → PerPath (Path K)
      → PerPath (Path K)
  paths_acking words space number now app_limited packet paths = record paths {
    current = path_acked words space number now app_limited packet paths.current;
    previous = option_map (path_left_by packet) paths.previous;
  }
