-- The positions of tracked packets in slots, of which some are empty, and the cost of finding one.
use Rattle.std.specs.Prelude.{◌≡◌, ◌≢◌, ℕ, ◌+◌, ◌*◌, ◌^◌, ◌<◌, ◌≤◌, length, filter, Option, None, MatchOption}
use Rattle.recovery_queue.specs.Slots.{is_below, is_from}
use Rattle.recovery_spaces.specs.Packets.{Packets, packet_at}

-- each packet has a slot, and at most 64 slots more than there are packets are empty
pub record HasSlots {P M : Type 0} (packets : Packets P M) (slots : ℕ) : Type 0 where
  pub enough : length packets ≤ slots
  pub bound : slots ≤ 2 * length packets + 64

-- a tracked packet's position: before it there is room for those with lower numbers, and from it on for this one and
-- the others
pub record IsPlaceOf {P M : Type 0} (packets : Packets P M) (number place slots : ℕ) : Type 0 where
  pub tracked : packet_at packets number ≢ None
  pub within : place < slots
  pub before : length (filter (is_below number) packets) ≤ place
  pub behind : place + length (filter (is_from number) packets) ≤ slots

-- the position of a tracked packet, and how many slots were read to find it: at least one, and at most as many as the
-- count of slots has binary digits
pub record FindsPacket {P M : Type 0} (packets : Packets P M) (number : ℕ) (found : Option ℕ × ℕ) : Type 0 where
  pub slots : ℕ
  pub has : HasSlots packets slots
  pub place : MatchOption found.0 (packet_at packets number ≡ None)
      (λ place. IsPlaceOf packets number place slots × (0 < found.1))
  pub looks : (digits : ℕ) → slots < 2 ^ digits → found.1 ≤ digits
