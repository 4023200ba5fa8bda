-- The ledger of a path: its generation, and its counters of what is in flight (RFC 9002, B.2).
use Rattle.std.specs.Prelude.{ℕ, ◌≡◌, ◌==◌, Option, if◌then◌else◌}
use Rattle.std.specs.Option.{ForSome, option_map_or}
use Rattle.recovery_spaces.specs.declared.paths.InFlight.{InFlight}
use Rattle.recovery_spaces.specs.InFlight.{with_packet, without_packet, IsCounted}
use Rattle.recovery_spaces.specs.Packets.{Packet, AreBelow, IsAboveLast, forgotten_entry}
use Rattle.recovery_spaces.specs.Spaces.{Space, tracking_of}

-- the value in contracts of its counters with its generation
pub record PathLedger : Type 0 where
  pub generation : ℕ
  pub in_flight : InFlight

abbrev pub generation_of : PathLedger → ℕ
generation_of path = path.generation

abbrev pub counters_of : PathLedger → InFlight
counters_of path = path.in_flight

-- nothing is in flight at first
abbrev pub fresh_ledger : ℕ → PathLedger
fresh_ledger generation = record {
  generation = generation;
  in_flight = record { bytes = 0; ack_eliciting = 0 };
}

abbrev pub with_counters : InFlight → PathLedger → PathLedger
with_counters counters path = record path { in_flight = counters }

-- the counters without a packet that left, if it is one of the path's
abbrev pub counters_left : {P M : Type 0} → PathLedger → Packet P M → InFlight
counters_left path packet =
    if packet.path_generation == generation_of path
    then without_packet (counters_of path) packet
    else counters_of path

abbrev pub after_leaving : {P M : Type 0} → PathLedger → Packet P M → PathLedger
after_leaving path packet = with_counters (counters_left path packet) path

abbrev pub after_forgetting : {P M : Type 0} → PathLedger → Option (ℕ × Packet P M) → PathLedger
after_forgetting path forgotten =
    with_counters (option_map_or (λ entry. counters_left path entry.1) forgotten (counters_of path)) path

-- the path after a packet was sent on it, and perhaps another forgotten
abbrev pub path_after_sending : {P M : Type 0}
    → PathLedger → Packet P M → Option (ℕ × Packet P M) → PathLedger
path_after_sending path packet forgotten =
    after_forgetting (with_counters (with_packet (counters_of path) packet) path) forgotten

-- ---- what callers must guarantee

-- a packet of the path is counted
abbrev pub IsCountedOn : {P M : Type 0} → PathLedger → Packet P M → Type 0
IsCountedOn path packet = packet.path_generation ≡ generation_of path → IsCounted (counters_of path) packet

-- a packet of the path may be tracked in a space under a number above all of the space, if a packet of the path that is
-- forgotten for it is counted
pub record CanTrack {P M : Type 0} (path : PathLedger) (number : ℕ) (packet : Packet P M)
    (space : Space P M) : Type 0 where
  pub above : AreBelow (tracking_of space).packets number
  pub above_last : IsAboveLast (tracking_of space).last_eliciting number
  pub own : packet.path_generation ≡ generation_of path
  pub counted : ForSome (forgotten_entry packet (tracking_of space)) (λ entry. IsCountedOn path entry.1)
