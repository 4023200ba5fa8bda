-- Tracked packets of one space, in the order of their numbers (RFC 9002, A.1).
use Rattle.std.specs.Prelude.{◌≡◌, ◌≢◌, ℕ, ◌<◌, ◌≤◌, IsSomeAnd, option_map, ◌⊎◌, Bool, IsTrue, true, not, ◌&&◌, nat_lt, nat_le, List, [], ◌∷◌, ◌++◌, length, filter, Option, None, Some, if◌then◌else◌}
use Rattle.std.specs.Option.{option_and_then, option_map_or}
use Rattle.std.specs.Ordering.{nat_cmp}
use Rattle.std.specs.BTreeMap.{is_at}
use Rattle.std.specs.Map.{lookup, remove_entry, set_value}
use Rattle.recovery_base.specs.Units.{number_limit}
use Rattle.recovery_queue.specs.Slots.{first_entry, is_from}

-- the value of a packet in contracts; P are the contents of its queue (RFC 9000, 13.3), and M is what the caller stores
-- about it
pub record Packet (P M : Type 0) : Type 0 where
  -- the path's generation
  pub path_generation : ℕ
  -- when it was sent
  pub time_sent : ℕ
  pub size : ℕ
  pub ack_eliciting : Bool
  -- the largest number in its ACK frame
  pub largest_acked : Option ℕ
  -- what is retransmitted if it is lost
  pub retransmits : P
  -- what the caller stores about it
  pub stream_frames : M

abbrev pub Packets : (P M : Type 0) → Type 0
Packets P M = List (ℕ × Packet P M)

-- the packet of a number
abbrev pub packet_at : {P M : Type 0} → Packets P M → ℕ → Option (Packet P M)
packet_at packets number = lookup (is_at (nat_cmp number)) packets

-- the packets except the one of a number
abbrev pub without : {P M : Type 0} → Packets P M → ℕ → Packets P M
without packets number = remove_entry (is_at (nat_cmp number)) packets

-- a packet with other contents
abbrev pub with_contents : {P M : Type 0} → P → Packet P M → Packet P M
with_contents contents packet = record packet { retransmits = contents }

abbrev pub replaced : {P M : Type 0} → ℕ → Option (Packet P M) → Packets P M → Packets P M
replaced number packet packets = option_map_or (set_value (is_at (nat_cmp number)) packets) packet packets

-- the packets, with other contents in that of a number, if there is one
abbrev pub carrying : {P M : Type 0} → ℕ → P → Packets P M → Packets P M
carrying number contents packets =
    replaced number (option_map (with_contents contents) (packet_at packets number)) packets

-- the contents of a packet, if there is one
abbrev pub contents_or : {P M : Type 0} → P → Option (Packet P M) → P
contents_or other packet = option_map_or (λ there. there.retransmits) packet other

-- a packet is left with the contents of a queue, and the queue with those of the packet
abbrev pub ExchangesContents : {Q P M : Type 0} → (Q → P) → Packet P M → Q → Packet P M → Q → Type 0
ExchangesContents contents old queue new left =
    (new ≡ with_contents (contents queue) old) × (contents left ≡ old.retransmits)

-- every packet has a number below this one
abbrev pub AreBelow : {P M : Type 0} → Packets P M → ℕ → Type 0
AreBelow {P} {M} packets limit =
    (number : ℕ) (packet : Packet P M) → packet_at packets number ≡ Some packet → number < limit

-- a number above another, if there is one
abbrev pub IsAboveLast : Option ℕ → ℕ → Type 0
IsAboveLast last number = (m : ℕ) → last ≡ Some m → m < number

-- some packet has a size
abbrev pub HasSize : {P M : Type 0} → Packets P M → Type 0
HasSize [] = ⊥
HasSize (entry ∷ packets) = (entry.1.size ≢ 0) ⊎ HasSize packets

-- some packet is ack-eliciting
abbrev pub HasEliciting : {P M : Type 0} → Packets P M → Type 0
HasEliciting [] = ⊥
HasEliciting (entry ∷ packets) = IsTrue entry.1.ack_eliciting ⊎ HasEliciting packets

-- the first packet at or above a number, with its number
abbrev pub first_from : {P M : Type 0} → ℕ → Packets P M → Option (ℕ × Packet P M)
first_from number packets = first_entry (filter (is_from number) packets)

-- ---- non-ack-eliciting packets

-- above a number, if there is one
abbrev pub is_above : Option ℕ → ℕ → Bool
is_above last number = option_map_or (λ other. nat_lt other number) last true

-- a non-ack-eliciting packet after the last ack-eliciting number
abbrev pub is_silent_above : {P M : Type 0} → Option ℕ → ℕ × Packet P M → Bool
is_silent_above last entry = is_above last entry.0 && not entry.1.ack_eliciting

abbrev pub silent_above : {P M : Type 0} → Option ℕ → Packets P M → Packets P M
silent_above last packets = filter (is_silent_above last) packets

abbrev pub least_number : {P M : Type 0} → Packets P M → Option ℕ
least_number [] = None
least_number (entry ∷ packets) = Some entry.0

-- the most non-ack-eliciting packets tracked after the last ack-eliciting one: quinn-proto stores 1000 and the newest
abbrev pub most_silent : ℕ
most_silent = 1001

-- the number that is forgotten when a packet is sent: for a non-ack-eliciting one, the smallest of that many
abbrev pub forgotten_number : {P M : Type 0} → Option ℕ → Packet P M → Packets P M → Option ℕ
forgotten_number last packet packets = let silent = silent_above last packets in
    if not packet.ack_eliciting && nat_le most_silent (length silent) then least_number silent else None

abbrev pub without_some : {P M : Type 0} → Packets P M → Option ℕ → Packets P M
without_some packets number = option_map_or (without packets) number packets

-- the packets after one more was sent
abbrev pub sent_onto : {P M : Type 0} → Option ℕ → ℕ → Packet P M → Packets P M → Packets P M
sent_onto last number packet packets =
    without_some packets (forgotten_number last packet packets) ++ (number, packet) ∷ []

abbrev pub numbered : {P M : Type 0} → ℕ → Option (Packet P M) → Option (ℕ × Packet P M)
numbered number = option_map (λ packet. (number, packet))

-- a number with its packet
abbrev pub entry_at : {P M : Type 0} → Packets P M → Option ℕ → Option (ℕ × Packet P M)
entry_at packets = option_and_then (λ number. numbered number (packet_at packets number))

abbrev pub entry_number : {P M : Type 0} → Option (ℕ × Packet P M) → Option ℕ
entry_number = option_map (λ entry. entry.0)

-- a number of 2^62 or more, which no packet has (RFC 9000, 12.3)
abbrev pub IsTooLarge : Option ℕ → Type 0
IsTooLarge number = IsSomeAnd number (λ n. number_limit ≤ n)

-- the largest number in the ACK frame of a packet, if it is tracked and has one
abbrev pub largest_acked_by : {P M : Type 0} → Option (Packet P M) → Option ℕ
largest_acked_by = option_and_then (λ packet. packet.largest_acked)

-- a packet is among others
abbrev pub IsAmong : {P M : Type 0} → Packets P M → Packet P M → Type 0
IsAmong [] packet = ⊥
IsAmong (entry ∷ packets) packet = (entry.1 ≡ packet) ⊎ IsAmong packets packet

-- the packets acknowledge numbers below 2^62
abbrev pub AreAcknowledging : {P M : Type 0} → Packets P M → Type 0
AreAcknowledging {P} {M} packets =
    (packet : Packet P M) → IsAmong packets packet → ¬ IsTooLarge packet.largest_acked

-- ---- what a space tracks

pub record Tracking (P M : Type 0) : Type 0 where
  pub packets : Packets P M
  -- the number of the last ack-eliciting packet sent
  pub last_eliciting : Option ℕ

abbrev pub no_packets : {P M : Type 0} → Tracking P M
no_packets = record { packets = []; last_eliciting = None }

-- the non-ack-eliciting packets after the last ack-eliciting one
abbrev pub silent_in : {P M : Type 0} → Tracking P M → Packets P M
silent_in tracking = silent_above tracking.last_eliciting tracking.packets

-- the packet that is forgotten when one is sent, with its number
abbrev pub forgotten_entry : {P M : Type 0} → Packet P M → Tracking P M → Option (ℕ × Packet P M)
forgotten_entry packet old =
    entry_at old.packets (forgotten_number old.last_eliciting packet old.packets)

abbrev pub after_sending : {P M : Type 0} → ℕ → Packet P M → Tracking P M → Tracking P M
after_sending number packet old = record {
  packets = sent_onto old.last_eliciting number packet old.packets;
  last_eliciting = (if packet.ack_eliciting then Some number else old.last_eliciting);
}

abbrev pub after_taking : {P M : Type 0} → ℕ → Tracking P M → Tracking P M
after_taking number old = record old { packets = without old.packets number }

abbrev pub after_carrying : {P M : Type 0} → ℕ → P → Tracking P M → Tracking P M
after_carrying number contents old =
    record old { packets = carrying number contents old.packets }
