-- The pending ACKs, and what each event does to them (RFC 9000, 13.2 and 19.3).
use Rattle.std.specs.Prelude.{ℕ, ◌≡◌, ◌+◌, ◌-◌, ◌<◌, ◌≤◌, ◌⊎◌, ◌↔◌, min, max, List, length, Bool, true, false, cond, nat_lt, IsTrue, Option, None, Some, IsSome, ⊤}
use Rattle.std.specs.Option.{unwrap_or}
use Rattle.std.specs.declared.ops.Range.{Range}
use Rattle.recovery_base.specs.Numbers.{IsLeastMissing, InsertNumber}
use Rattle.recovery_base.specs.Ranges.{InRanges, AreApart}
use Rattle.recovery_base.specs.Units.{largest_u64, last_time}
use Rattle.recovery_acks.specs.Runs.{IsInHighest}

-- what decides about the next ACK, in addition to the numbers received
pub record AckCounts : Type 0 where
  -- the ack-eliciting packets, and the others, since the last ACK
  pub eliciting : ℕ
  pub silent : ℕ
  -- the most ack-eliciting packets without an immediate ACK, and the reordering threshold
  pub thresholds : ℕ × ℕ
  -- the largest packet received, with its time
  pub largest : Option (ℕ × ℕ)
  -- the largest ack-eliciting number, and that at the last ACK
  pub greatest : Option ℕ
  pub acknowledged : Option ℕ

pub record Acks : Type 0 where
  -- an ACK is required at once
  pub required : Bool
  -- the delay base: when the first ack-eliciting packet since the last ACK was received while no ACK could be sent at
  -- once
  pub base : Option ℕ
  pub ranges : List (Range ℕ)
  pub counts : AckCounts

-- n is to be acknowledged
abbrev pub IsPending : Acks → ℕ → Type 0
IsPending acks n = InRanges acks.ranges n

abbrev pub CanSend : Acks → Type 0
CanSend acks = IsTrue acks.required × ((n : ℕ) × IsPending acks n)

-- one is at most another, if there is one
abbrev pub IsNotAbove : Option ℕ → Option ℕ → Type 0
IsNotAbove None other = ⊤
IsNotAbove (Some n) None = ⊥
IsNotAbove (Some n) (Some m) = n ≤ m

-- the most ranges that are stored: an ACK frame encodes each in at most 16 bytes (RFC 9000, 19.3.1), so one with 64
-- fits into a datagram of 1200 bytes
abbrev pub most_ranges : ℕ
most_ranges = 64

-- this many non-ack-eliciting packets need no ACK of their own; one more does (RFC 9000, 13.2.1)
abbrev pub lazy_ack_threshold : ℕ
lazy_ack_threshold = 10

-- an invariant: if there are ack-eliciting packets since the last ACK, there is a delay base or an ACK is required at
-- once
pub record AreAcksSound (acks : Acks) : Type 0 where
  pub ranges : length acks.ranges ≤ most_ranges
  pub apart : AreApart 0 acks.ranges
  pub noticed : 0 < acks.counts.eliciting → IsSome acks.base ⊎ IsTrue acks.required
  pub order : IsNotAbove acks.counts.acknowledged acks.counts.greatest

-- ---- the counts

-- before any packet
abbrev pub fresh : AckCounts
fresh = record { eliciting = 0; silent = 0; thresholds = (1, 1); largest = None; greatest = None; acknowledged = None }

-- counters saturate
abbrev pub counted : ℕ → ℕ
counted n = min (n + 1) largest_u64

-- the largest packet, with its time, after another was received
abbrev pub largest_with : Option (ℕ × ℕ) → ℕ → ℕ → Option (ℕ × ℕ)
largest_with None number now = Some (number, now)
largest_with (Some largest) number now = cond (nat_lt largest.0 number) (Some (number, now)) (Some largest)

-- a number was inserted
abbrev pub counts_inserted : ℕ → ℕ → AckCounts → AckCounts
counts_inserted now number counts = record counts { largest = largest_with counts.largest number now }

-- a packet of this number was received: a non-ack-eliciting one is only counted
abbrev pub counts_received : Bool → ℕ → AckCounts → AckCounts
counts_received false number counts = record counts { silent = counted counts.silent }
counts_received true number counts =
    record counts { eliciting = counted counts.eliciting; greatest = Some (max (unwrap_or counts.greatest 0) number) }

-- an ACK was sent
abbrev pub counts_acked : AckCounts → AckCounts
counts_acked counts = record counts { eliciting = 0; silent = 0; acknowledged = counts.greatest }

-- ---- calls as functions

abbrev pub new_acks : List (Range ℕ) → Acks
new_acks ranges = record { required = false; base = None; ranges = ranges; counts = fresh }

abbrev pub with_counts : AckCounts → Acks → Acks
with_counts counts old = record old { counts = counts }

abbrev pub with_thresholds : ℕ → ℕ → Acks → Acks
with_thresholds threshold reordering old = with_counts (record old.counts { thresholds = (threshold, reordering) }) old

abbrev pub with_required : Bool → Acks → Acks
with_required required old = record old { required = required }

abbrev pub acks_sent : Acks → Acks
acks_sent old = record old { required = false; base = None; counts = counts_acked old.counts }

-- a non-ack-eliciting packet was received
abbrev pub silent_received : Acks → Acks
silent_received old = with_counts (counts_received false 0 old.counts) old

-- above the numbers that the last ACK lets the peer declare lost, the smallest one missing is a threshold below the
-- largest
abbrev pub IsReported : (ℕ → Type 0) → ℕ → ℕ → Option ℕ → Type 0
IsReported Known threshold greatest None = ⊥
IsReported Known threshold greatest (Some k) =
    (threshold ≤ k)
    × ((m : ℕ) × IsLeastMissing Known (k - threshold + 1) greatest (Some m) × (threshold ≤ greatest - m))

-- an ack-eliciting packet is out of order (RFC 9000, 13.2.1; draft-ietf-quic-ack-frequency-04, section 6.1)
abbrev pub IsOutOfOrder : (ℕ → Type 0) → ℕ → Option ℕ → ℕ → ℕ → ℕ → Type 0
IsOutOfOrder Known threshold acknowledged before greatest number =
    ((threshold ≡ 1) × ((number < before) ⊎ ((m : ℕ) × IsLeastMissing Known before number (Some m))))
    ⊎ ((1 < threshold) × IsReported Known threshold greatest acknowledged)

-- an ack-eliciting packet requires an ACK at once: with it more were received since the last ACK than the threshold, or
-- it is out of order. The counts are those before it, and the numbers known include it
abbrev pub RequiresImmediateAck : (ℕ → Type 0) → AckCounts → ℕ → Type 0
RequiresImmediateAck Known counts number = let before = unwrap_or counts.greatest 0 in
    (counts.thresholds.0 < counted counts.eliciting)
    ⊎ IsOutOfOrder Known counts.thresholds.1 counts.acknowledged before (max before number) number

-- an ack-eliciting packet was received
pub record ReceivesEliciting (Known : ℕ → Type 0) (old : Acks) (now number : ℕ) (arm : Bool) (new : Acks) : Type 0 where
  pub counts : new.counts ≡ counts_received true number old.counts
  pub required : IsTrue new.required ↔ (IsTrue old.required ⊎ RequiresImmediateAck Known old.counts number)
  pub armed : IsTrue arm ↔ ((old.base ≡ None) × ¬ CanSend new)
  pub base : new.base ≡ cond arm (Some now) old.base
  pub ranges : new.ranges ≡ old.ranges

-- a packet was received: whether it is ack-eliciting, and whether to start the ACK delay timer
abbrev pub ReceivesPacket : (ℕ → Type 0) → Acks → ℕ → ℕ → Bool → Bool → Acks → Type 0
ReceivesPacket Known old now number true arm new = ReceivesEliciting Known old now number arm new
ReceivesPacket Known old now number false arm new = (arm ≡ false) × (new ≡ silent_received old)

-- a number is to be acknowledged; the highest runs stay, as many as are stored
pub record AddsPending (old : Acks) (number now : ℕ) (new : Acks) : Type 0 where
  pub pending : (n : ℕ) → IsPending new n ↔ IsInHighest most_ranges (InsertNumber number (IsPending old)) n
  pub some : (n : ℕ) × IsPending new n
  pub counts : new.counts ≡ counts_inserted now number old.counts
  pub others : (new.required ≡ old.required) × (new.base ≡ old.base)

-- the peer knows the ACKs up to a number
pub record SubtractsBelow (old : Acks) (last : ℕ) (new : Acks) : Type 0 where
  pub pending : (n : ℕ) → IsPending new n ↔ (IsPending old n × (last < n))
  pub others : (new.required ≡ old.required) × (new.base ≡ old.base) × (new.counts ≡ old.counts)

-- how long ago the largest packet was received
abbrev pub delay_at : ℕ → Option (ℕ × ℕ) → ℕ
delay_at now None = 0
delay_at now (Some largest) = now - largest.1

-- the end of a delay that starts at the base
abbrev pub timeout_at : ℕ → Option ℕ → Option ℕ
timeout_at delay None = None
timeout_at delay (Some base) = Some (min (base + delay) last_time)

-- some number known is at least this one
abbrev pub IsAtLeastSome : (ℕ → Type 0) → ℕ → Type 0
IsAtLeastSome Known n = (m : ℕ) × Known m × (n ≤ m)
