-- Packets sent in a space, and those still tracked (RFC 9002, A.1).
use Rattle.std.specs.Prelude.{ℕ, ◌+◌, List, [], ◌∷◌, ◌++◌, Bool, Option, None, Some, if◌then◌else◌}
use Rattle.std.specs.Option.{option_map_or}
use Rattle.recovery_queue.specs.Queues.{QueueSemantics}
use Rattle.recovery_spaces.specs.Packets.{Packet, Packets, without, carrying, forgotten_number, without_some}
use Rattle.recovery_spaces.specs.SpaceLog.{SpaceEntry, sends, acknowledged, loses, probes, emptied}

-- a packet as it is sent
abbrev pub packet_sent : {P M : Type 0} → ℕ → ℕ → ℕ → Bool → Option ℕ → P → M → Packet P M
packet_sent generation now size ack_eliciting largest_acked retransmits stream_frames = record {
  path_generation = generation;
  time_sent = now;
  size = size;
  ack_eliciting = ack_eliciting;
  largest_acked = largest_acked;
  retransmits = retransmits;
  stream_frames = stream_frames;
}

pub record SentState (P M : Type 0) : Type 0 where
  -- one above the last number assigned
  pub next : ℕ
  -- the number of the last ack-eliciting packet sent
  pub last : Option ℕ
  -- the packets sent, and since then not acknowledged, lost, forgotten or discarded
  pub tracked : Packets P M

-- the number that is forgotten when a packet is sent
abbrev pub forgotten_by : {P M : Type 0} → SentState P M → Packet P M → Option ℕ
forgotten_by sent packet = forgotten_number sent.last packet sent.tracked

abbrev pub sent_more : {P M : Type 0} → ℕ → Packet P M → SentState P M → SentState P M
sent_more number packet sent = record {
  next = number + 1;
  last = (if packet.ack_eliciting then Some number else sent.last);
  tracked = without_some sent.tracked (forgotten_by sent packet) ++ (number, packet) ∷ [];
}

-- a packet is no longer tracked
abbrev pub sent_less : {P M : Type 0} → ℕ → SentState P M → SentState P M
sent_less number sent = record sent { tracked = without sent.tracked number }

-- a packet's contents are moved out, if a probe finds them
abbrev pub sent_moved : {P M : Type 0} → P → Option ℕ → SentState P M → SentState P M
sent_moved empty moved sent =
    record sent { tracked = option_map_or (λ number. carrying number empty sent.tracked) moved sent.tracked }

module _ {P M S : Type 0} (words : QueueSemantics P S) where
  abbrev pub sent_by : List (SpaceEntry P M) → SentState P M
  sent_by [] = record { next = 0; last = None; tracked = [] }
  sent_by (sends number packet ∷ earlier) = sent_more number packet (sent_by earlier)
  sent_by (acknowledged number ∷ earlier) = sent_less number (sent_by earlier)
  sent_by (loses number ∷ earlier) = sent_less number (sent_by earlier)
  sent_by (probes immediate found ∷ earlier) = sent_moved words.empty found.moved (sent_by earlier)
  sent_by (emptied ∷ earlier) = record (sent_by earlier) { tracked = [] }
  sent_by (entry ∷ earlier) = sent_by earlier
