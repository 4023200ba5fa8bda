-- The three packet number spaces (RFC 9000, 12.3), and what an event does to one.
use Rattle.std.specs.Prelude.{◌≡◌, ℕ, ◌+◌, ◌-◌, ◌⊎◌, ◌↔◌, ◌||◌, ◌&&◌, not, min, max, nat_lt, List, [], Bool, IsTrue, Option, None, Some, if◌then◌else◌, ◌<◌, ◌≤◌, Result, Ok, Err}
use Rattle.std.specs.Option.{option_and_then, option_map_or}
use Rattle.recovery_base.specs.declared.below.SpaceId.{SpaceId}
use Rattle.recovery_base.specs.declared.below.SpaceId.TheVariants.{Initial, Handshake, Data}
use Rattle.recovery_base.specs.declared.below.frames.AckFrequency.{AckFrequency}
use Rattle.recovery_base.specs.declared.below.frames.EcnCounts.{EcnCounts}
use Rattle.recovery_base.specs.declared.dedup.Dedup.{Dedup}
use Rattle.recovery_base.specs.Numbers.{RecentNumbers, InsertNumber, Exceeds, IsNewNumber}
use Rattle.recovery_base.specs.Received.{HasReceived}
use Rattle.recovery_base.specs.Units.{largest_u64, number_limit}
use Rattle.recovery_acks.specs.Acks.{AckCounts, Acks, RequiresImmediateAck, IsPending, SubtractsBelow, acks_sent, counts_inserted, counts_received, most_ranges, new_acks, with_required, with_thresholds}
use Rattle.recovery_queue.specs.Queues.{QueueSemantics}
use Rattle.recovery_spaces.specs.declared.spaces.ReceiveError.{ReceiveError}
use Rattle.recovery_spaces.specs.declared.spaces.ReceiveError.TheVariants.{NumberTooLarge, NoMemory}
use Rattle.recovery_spaces.specs.declared.spaces.Receipt.{Receipt}
use Rattle.recovery_spaces.specs.declared.spaces.Receipt.TheVariants.{New, Duplicate}
use Rattle.recovery_acks.specs.Runs.{IsInHighest}
use Rattle.recovery_spaces.specs.Acks.{AckState, ArmsAckTimer, counts_by, acks_by}
use Rattle.recovery_spaces.specs.Kept.{largest_acknowledged, last_eliciting_sent, one_more, probes_by}
use Rattle.recovery_spaces.specs.Probes.{ProbeFound}
use Rattle.recovery_spaces.specs.Queued.{QueuedState, joined_with, no_ecn, queued_by}
use Rattle.recovery_spaces.specs.SpaceLog.{SpaceEntry, heard, heard_again, sends, acknowledged, loses, probes, takes_pending, feeds_back, emptied, ack_goes, ack_is_late, asked}
use Rattle.recovery_spaces.specs.Tracked.{SentState, sent_by}
use Rattle.recovery_spaces.specs.Received.{ReceivedNumbers}
use Rattle.recovery_spaces.specs.Packets.{Packet, Packets, Tracking, packet_at, AreBelow, IsAboveLast, AreAcknowledging, after_sending, after_taking, after_carrying, is_above, no_packets}

-- the value of a space in contracts; P are the contents of its queues
pub record Space (P M : Type 0) : Type 0 where
  pub dedup : Dedup
  pub pending_acks : Acks
  pub rx_packet : ℕ
  pub largest_acked_packet : Option ℕ
  pub largest_acked_packet_sent : ℕ
  pub time_of_last_ack_eliciting_packet : Option ℕ
  pub loss_probes : ℕ
  pub sent_with_keys : ℕ
  pub next_packet_number : ℕ
  pub sent_packets : Tracking P M
  -- the retransmission queue
  pub pending : P
  pub ping_pending : Bool
  pub immediate_ack_pending : Bool
  pub ecn_counters : EcnCounts
  pub ecn_feedback : EcnCounts
  pub loss_time : Option ℕ
  pub crypto_offset : ℕ

pub record Spaces (P M : Type 0) : Type 0 where
  pub initial : Space P M
  pub handshake : Space P M
  pub «data» : Space P M

abbrev pub space_of : {P M : Type 0} → SpaceId → Spaces P M → Space P M
space_of Initial spaces = spaces.initial
space_of Handshake spaces = spaces.handshake
space_of Data spaces = spaces.«data»

abbrev pub with_space : {P M : Type 0} → Spaces P M → SpaceId → Space P M → Spaces P M
with_space spaces Initial space = record spaces { initial = space }
with_space spaces Handshake space = record spaces { handshake = space }
with_space spaces Data space = record spaces { «data» = space }

-- ---- one space

abbrev pub tracking_of : {P M : Type 0} → Space P M → Tracking P M
tracking_of space = space.sent_packets

abbrev pub with_tracking : {P M : Type 0} → Tracking P M → Space P M → Space P M
with_tracking tracking space = record space { sent_packets = tracking }

abbrev pub packets_of : {P M : Type 0} → Space P M → Packets P M
packets_of space = space.sent_packets.packets

-- the state of the packets sent
abbrev pub sent_of : {P M : Type 0} → Space P M → SentState P M
sent_of space = let packets = space.sent_packets in
    record { next = space.next_packet_number; last = packets.last_eliciting; tracked = packets.packets }

-- the retransmission queue, and what probes ask for
abbrev pub queued_of : {P M : Type 0} → Space P M → QueuedState P
queued_of space = record {
  pending = space.pending;
  ping = space.ping_pending;
  immediate = space.immediate_ack_pending;
  ecn = space.ecn_feedback;
}

abbrev pub acks_of : {P M : Type 0} → Space P M → Acks
acks_of space = space.pending_acks

abbrev pub with_acks : {P M : Type 0} → Acks → Space P M → Space P M
with_acks acks space = record space { pending_acks = acks }

abbrev pub next_number_of : {P M : Type 0} → Space P M → ℕ
next_number_of space = space.next_packet_number

-- the largest ack-eliciting number was received
abbrev pub HasGreatestCome : {P M : Type 0} → Space P M → Type 0
HasGreatestCome space =
    (number : ℕ) → (acks_of space).counts.greatest ≡ Some number → ¬ Exceeds (HasReceived space.dedup) number

-- all packets sent have numbers below the next one, and acknowledge numbers below 2^62; the largest ack-eliciting
-- number was received
pub record IsCoherent {P M : Type 0} (space : Space P M) : Type 0 where
  pub packets : AreBelow (packets_of space) (next_number_of space)
  pub last : IsAboveLast (tracking_of space).last_eliciting (next_number_of space)
  pub acknowledging : AreAcknowledging (packets_of space)
  pub received : HasGreatestCome space

-- a number is assigned, and those from the next one up to it are skipped
abbrev pub after_number : {P M : Type 0} → ℕ → Space P M → Space P M
after_number number space = record space {
  next_packet_number = number + 1;
  sent_with_keys = min (space.sent_with_keys + (number + 1 - space.next_packet_number)) largest_u64;
}

-- an ack-eliciting packet was sent at this time, or another one
abbrev pub after_eliciting : {P M : Type 0} → Bool → ℕ → Space P M → Space P M
after_eliciting eliciting now space = record space {
  time_of_last_ack_eliciting_packet = (if eliciting then Some now else space.time_of_last_ack_eliciting_packet);
  loss_probes = (if eliciting then space.loss_probes - 1 else space.loss_probes);
}

-- a number is acknowledged whose packet was sent at this time: the largest is stored
abbrev pub after_acknowledging : {P M : Type 0} → ℕ → ℕ → Space P M → Space P M
after_acknowledging number sent space = record space {
  largest_acked_packet =
      (if is_above space.largest_acked_packet number then Some number else space.largest_acked_packet);
  largest_acked_packet_sent =
      (if is_above space.largest_acked_packet number then sent else space.largest_acked_packet_sent);
}

-- nothing happened in it since it was made at this time
pub record IsMade {P M S : Type 0} (words : QueueSemantics P S) (start : ℕ) (space : Space P M) : Type 0 where
  pub numbers : (n : ℕ) → ¬ HasReceived space.dedup n
  pub acks : acks_of space ≡ new_acks []
  pub received : space.rx_packet ≡ 0
  pub packets : tracking_of space ≡ no_packets
  pub next : next_number_of space ≡ 0
  pub acknowledged : space.largest_acked_packet ≡ None
  pub acknowledged_sent : space.largest_acked_packet_sent ≡ start
  pub last_sent : space.time_of_last_ack_eliciting_packet ≡ None
  pub probes : space.loss_probes ≡ 0
  pub given_out : space.sent_with_keys ≡ 0
  pub queued : queued_of space ≡ queued_by {M = M} words []
  pub ecn : space.ecn_counters ≡ no_ecn
  pub loss_time : space.loss_time ≡ None
  pub crypto_offset : space.crypto_offset ≡ 0

-- ---- what an event does to its space

-- the state of the packets received, if these are the numbers
abbrev pub heard_with : (ℕ → Type 0) → Acks → AckState
heard_with Numbers acks = record {
  came = Numbers;
  required = IsTrue acks.required;
  pending = IsPending acks;
  started = λ m. acks.base ≡ Some m;
}

abbrev pub heard_of : {P M : Type 0} → Space P M → AckState
heard_of space = heard_with (HasReceived space.dedup) (acks_of space)

abbrev pub ArmsBy : AckState → AckCounts → ℕ → Bool → Type 0
ArmsBy known = ArmsAckTimer known.came known.required known.started

-- a new number was received and is to be acknowledged
pub record AddsReceivedNumber (Numbers : ℕ → Type 0) (old : Acks) (now number : ℕ) (eliciting : Bool)
    (new : Acks) : Type 0 where
  pub pending : (n : ℕ) → IsPending new n ↔ IsInHighest most_ranges (InsertNumber number (IsPending old)) n
  pub required : IsTrue new.required
      ↔ (IsTrue old.required ⊎ (IsTrue eliciting × RequiresImmediateAck
      (InsertNumber number Numbers) old.counts number))
  pub started : (m : ℕ) → (new.base ≡ Some m)
      ↔ ((old.base ≡ Some m) ⊎ ((m ≡ now) × ArmsBy (heard_with Numbers old) old.counts number eliciting))
  pub counts : new.counts ≡ counts_received eliciting number (counts_inserted now number old.counts)

pub record ReceivesNew {P M : Type 0} (old : Space P M) (now number : ℕ) (eliciting : Bool)
    (new : Space P M) : Type 0 where
  pub numbers : (n : ℕ) → HasReceived new.dedup n ↔ RecentNumbers (InsertNumber number (HasReceived old.dedup)) n
  pub hears : AddsReceivedNumber (HasReceived old.dedup) (acks_of old) now number eliciting (acks_of new)
  pub others : new ≡ record old {
    dedup = new.dedup;
    pending_acks = new.pending_acks;
    rx_packet = max old.rx_packet number;
  }

-- a packet was sent under a number
abbrev pub space_sends : {P M : Type 0} → ℕ → Packet P M → Space P M → Space P M
space_sends number packet space = after_eliciting packet.ack_eliciting packet.time_sent
    (after_number number (with_tracking (after_sending number packet (tracking_of space)) space))

-- the packet of a number is no longer tracked
abbrev pub space_takes : {P M : Type 0} → ℕ → Space P M → Space P M
space_takes number space = with_tracking (after_taking number (tracking_of space)) space

-- the numbers up to the largest that the peer knows of need no more acknowledgement
abbrev pub SubtractsLargest : Option ℕ → Acks → Acks → Type 0
SubtractsLargest None old new = new ≡ old
SubtractsLargest (Some largest) old new = SubtractsBelow old largest new

-- a tracked packet was acknowledged
pub record SpaceAcked {P M : Type 0} (number : ℕ) (old new : Space P M) : Type 0 where
  pub packet : Packet P M
  pub found : packet_at (packets_of old) number ≡ Some packet
  pub subtracts : SubtractsLargest packet.largest_acked (acks_of old) (acks_of new)
  pub others : new ≡ with_acks (acks_of new)
      (after_acknowledging number packet.time_sent (space_takes number old))

-- nothing is tracked any more
abbrev pub space_empties : {P M : Type 0} → Space P M → Space P M
space_empties space = with_tracking (record (tracking_of space) { packets = [] }) space

-- an ACK was sent
abbrev pub space_acks_sent : {P M : Type 0} → Space P M → Space P M
space_acks_sent space = with_acks (acks_sent (acks_of space)) space

-- the ACK delay timer expired
abbrev pub space_late : {P M : Type 0} → Space P M → Space P M
space_late space =
    with_acks (with_required (nat_lt 0 (acks_of space).counts.eliciting) (acks_of space)) space

-- the peer asked for other thresholds
abbrev pub space_asked : {P M : Type 0} → AckFrequency → Space P M → Space P M
space_asked frame space =
    with_acks
    (with_thresholds frame.ack_eliciting_threshold frame.reordering_threshold (acks_of space))
    space

-- ECN counts were stored
abbrev pub space_fed_back : {P M : Type 0} → EcnCounts → Space P M → Space P M
space_fed_back counts space = record space { ecn_feedback = counts }

-- one more probe is to be sent
abbrev pub one_probe_more : {P M : Type 0} → Space P M → Space P M
one_probe_more space = record space { loss_probes = one_more space.loss_probes }

module _ {P M S : Type 0} (words : QueueSemantics P S) where
  -- the contents of a tracked packet are appended to the retransmission queue
  abbrev pub space_moves : ℕ → Space P M → Space P M
  space_moves number space = record space {
    sent_packets = after_carrying number words.empty (tracking_of space);
    pending = joined_with words space.pending (packet_at (packets_of space) number);
  }

  -- a tracked packet was lost: its contents are queued for retransmission
  abbrev pub space_loses : ℕ → Space P M → Space P M
  space_loses number space = record space {
    sent_packets = after_taking number (tracking_of space);
    pending = joined_with words space.pending (packet_at (packets_of space) number);
  }

  abbrev pub space_finds : Option ℕ → Space P M → Space P M
  space_finds moved space = record space {
    sent_packets =
        option_map_or (λ number. after_carrying number words.empty (tracking_of space)) moved (tracking_of space);
    pending = joined_with words space.pending (option_and_then (packet_at (packets_of space)) moved);
  }

  -- contents for a probe were sought
  abbrev pub space_probes : Bool → ProbeFound → Space P M → Space P M
  space_probes immediate found space = record (space_finds found.moved space) {
    ping_pending = space.ping_pending || (found.nothing && not (immediate || space.immediate_ack_pending));
    immediate_ack_pending = immediate || space.immediate_ack_pending;
  }

  -- the retransmission queue was returned
  abbrev pub space_hands_out : Space P M → Space P M
  space_hands_out space = record space { pending = words.empty }

  -- the space is discarded: it tracks nothing, and its retransmission queue is empty
  abbrev pub space_discards : Space P M → Space P M
  space_discards space = space_hands_out (space_empties space)

-- a packet was received
abbrev pub arrives : {P M : Type 0} → ℕ → ℕ → Bool → Receipt → SpaceEntry P M
arrives now number ack_eliciting (New arm) = heard now number ack_eliciting
arrives now number ack_eliciting Duplicate = heard_again number

-- the receipt of a packet, by the numbers received before it and the counts that decide about the next ACK
abbrev pub IsReceipt : AckState → AckCounts → ℕ → Bool → Receipt → Type 0
IsReceipt known counts number eliciting (New arm) =
    IsNewNumber known.came number
    × (IsTrue arm ↔ ArmsAckTimer known.came known.required known.started counts number eliciting)
IsReceipt known counts number eliciting Duplicate = ¬ IsNewNumber known.came number

-- the result for a received packet: its number may be too large, and only a new one allocates
abbrev pub ReceiveReply : AckState → AckCounts → ℕ → Bool → Result Receipt ReceiveError → Type 0
ReceiveReply known counts number eliciting (Ok receipt) =
    (number < number_limit) × IsReceipt known counts number eliciting receipt
ReceiveReply known counts number eliciting (Err NumberTooLarge) = number_limit ≤ number
ReceiveReply known counts number eliciting (Err NoMemory) = (number < number_limit) × IsNewNumber known.came number

-- ---- the state after a log

-- the pending ACKs of a space, and what decides when they are due
pub record AcksAfter (said : AckState) (said_counts : AckCounts) (acks : Acks) : Type 0 where
  pub pending : (n : ℕ) → IsPending acks n ↔ said.pending n
  pub required : IsTrue acks.required ↔ said.required
  pub started : (m : ℕ) → (acks.base ≡ Some m) ↔ said.started m
  pub counts : acks.counts ≡ said_counts

module _ {P M S : Type 0} (words : QueueSemantics P S) where
  abbrev pub SpaceStep : SpaceEntry P M → Space P M → Space P M → Type 0
  SpaceStep (heard now number ack_eliciting) old new = ReceivesNew old now number ack_eliciting new
  SpaceStep (heard_again number) old new =
      ((n : ℕ) → HasReceived new.dedup n ↔ RecentNumbers (InsertNumber number (HasReceived old.dedup)) n) × (new ≡ old)
  SpaceStep (sends number packet) old new =
      (next_number_of old ≤ number) × (new ≡ space_sends number packet old)
  SpaceStep (acknowledged number) old new = SpaceAcked number old new
  SpaceStep (loses number) old new = new ≡ space_loses words number old
  SpaceStep (probes immediate found) old new =
      new ≡ space_probes words immediate found (one_probe_more old)
  SpaceStep takes_pending old new = new ≡ space_hands_out words old
  SpaceStep (feeds_back counts) old new = new ≡ space_fed_back counts old
  SpaceStep emptied old new = new ≡ space_discards words old
  SpaceStep ack_goes old new = new ≡ space_acks_sent old
  SpaceStep ack_is_late old new = new ≡ space_late old
  SpaceStep (asked frame) old new = new ≡ space_asked frame old

  -- the state of a space after a log, if it was made at this time
  pub record SpaceAfter (start : ℕ) (log : List (SpaceEntry P M)) (left : Space P M) : Type 0 where
    -- a space knows the numbers received in it, at most 128 below the largest
    pub numbers : (n : ℕ) → HasReceived left.dedup n ↔ RecentNumbers (ReceivedNumbers log) n
    pub acks : AcksAfter (acks_by words log) (counts_by log) left.pending_acks
    -- the largest new number, and 0 before the first
    pub greatest : left.rx_packet ≡ option_map_or (λ largest. largest.0) (counts_by log).largest 0
    pub sent : sent_of left ≡ sent_by words log
    pub acknowledged :
        (left.largest_acked_packet, left.largest_acked_packet_sent) ≡ largest_acknowledged words start log
    pub last_sent : left.time_of_last_ack_eliciting_packet ≡ last_eliciting_sent log
    pub probes : left.loss_probes ≡ probes_by log
    -- how many numbers were assigned or skipped, up to the counter's maximum
    pub given_out : left.sent_with_keys ≡ min (sent_by words log).next largest_u64
    pub queued : queued_of left ≡ queued_by words log
