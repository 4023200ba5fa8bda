-- Bytes in flight (RFC 9002, 2 and B.2): sums over the tracked packets of a path's generation.
use Rattle.std.specs.Prelude.{ℕ, ◌+◌, ◌-◌, ◌≤◌, ◌==◌, ◌&&◌, ◌⊎◌, sum_by, if◌then◌else◌}
use Rattle.recovery_base.specs.declared.below.SpaceId.{SpaceId}
use Rattle.recovery_base.specs.declared.below.SpaceId.TheVariants.{Initial, Handshake, Data}
use Rattle.recovery_base.specs.Units.{u64_limit}
use Rattle.recovery_spaces.specs.declared.paths.InFlight.{InFlight}
use Rattle.recovery_spaces.specs.Packets.{Packet, Packets}

-- what a packet adds to the counters of a generation
abbrev pub size_in : {P M : Type 0} → ℕ → ℕ × Packet P M → ℕ
size_in generation entry = if entry.1.path_generation == generation then entry.1.size else 0

abbrev pub eliciting_in : {P M : Type 0} → ℕ → ℕ × Packet P M → ℕ
eliciting_in generation entry = if entry.1.path_generation == generation && entry.1.ack_eliciting then 1 else 0

abbrev pub over_spaces : (SpaceId → ℕ) → ℕ
over_spaces count = count Initial + count Handshake + count Data

-- the sum of sizes, and the count of ack-eliciting packets
abbrev pub in_flight : {P M : Type 0} → ℕ → (SpaceId → Packets P M) → InFlight
in_flight generation tracked = record {
  bytes = over_spaces (λ space. sum_by (size_in generation) (tracked space));
  ack_eliciting = over_spaces (λ space. sum_by (eliciting_in generation) (tracked space));
}

-- ---- one packet more or less

abbrev pub eliciting_one : {P M : Type 0} → Packet P M → ℕ
eliciting_one packet = if packet.ack_eliciting then 1 else 0

abbrev pub with_packet : {P M : Type 0} → InFlight → Packet P M → InFlight
with_packet counters packet = record {
  bytes = counters.bytes + packet.size;
  ack_eliciting = counters.ack_eliciting + eliciting_one packet;
}

abbrev pub without_packet : {P M : Type 0} → InFlight → Packet P M → InFlight
without_packet counters packet = record {
  bytes = counters.bytes - packet.size;
  ack_eliciting = counters.ack_eliciting - eliciting_one packet;
}

-- the packet is counted
abbrev pub IsCounted : {P M : Type 0} → InFlight → Packet P M → Type 0
IsCounted counters packet =
    (packet.size ≤ counters.bytes) × (eliciting_one packet ≤ counters.ack_eliciting)

-- all packets of a space are counted
abbrev pub IsCountedIn : {P M : Type 0} → InFlight → ℕ → Packets P M → Type 0
IsCountedIn counters generation packets =
    (sum_by (size_in generation) packets ≤ counters.bytes)
    × (sum_by (eliciting_in generation) packets ≤ counters.ack_eliciting)

-- a counter would exceed its type
abbrev pub Overflows : {P M : Type 0} → InFlight → Packet P M → Type 0
Overflows counters packet = (u64_limit ≤ counters.bytes + packet.size)
    ⊎ (u64_limit ≤ counters.ack_eliciting + (if packet.ack_eliciting then 1 else 0))
