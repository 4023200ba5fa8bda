-- The pending ACKs of a space and when they are due, by its log (RFC 9000, 13.2 and 19.3;
-- draft-ietf-quic-ack-frequency-04).
use Rattle.std.specs.Prelude.{ℕ, ◌≡◌, ◌<◌, ◌⊎◌, List, [], ◌∷◌, Bool, IsTrue}
use Rattle.recovery_base.specs.Numbers.{InsertNumber}
use Rattle.recovery_acks.specs.Acks.{AckCounts, RequiresImmediateAck, fresh, counts_acked, counts_inserted, counts_received, most_ranges}
use Rattle.recovery_acks.specs.Runs.{IsInHighest}
use Rattle.recovery_queue.specs.Queues.{QueueSemantics}
use Rattle.recovery_spaces.specs.Packets.{packet_at, is_above, largest_acked_by}
use Rattle.recovery_spaces.specs.Received.{ReceivedNumbers}
use Rattle.recovery_spaces.specs.SpaceLog.{SpaceEntry, heard, acknowledged, ack_goes, ack_is_late, asked}
use Rattle.recovery_spaces.specs.Tracked.{sent_by}

-- ---- the ACK set

module _ {P M S : Type 0} (words : QueueSemantics P S) where
  -- the new numbers that were not subtracted, reduced after each to the highest runs, `most_ranges` of them
  abbrev pub ToAcknowledge : List (SpaceEntry P M) → ℕ → Type 0
  ToAcknowledge [] n = ⊥
  ToAcknowledge (heard now m eliciting ∷ earlier) n = IsInHighest most_ranges (InsertNumber m (ToAcknowledge earlier)) n
  ToAcknowledge (acknowledged number ∷ earlier) n =
      ToAcknowledge earlier n
      × IsTrue (is_above (largest_acked_by (packet_at (sent_by words earlier).tracked number)) n)
  ToAcknowledge (entry ∷ earlier) n = ToAcknowledge earlier n

-- ---- an immediate ACK, or a timer

module _ {P M : Type 0} where
  -- the counts that decide about the next ACK
  abbrev pub counts_by : List (SpaceEntry P M) → AckCounts
  counts_by [] = fresh
  counts_by (heard now number eliciting ∷ earlier) =
      counts_received eliciting number (counts_inserted now number (counts_by earlier))
  counts_by (ack_goes ∷ earlier) = counts_acked (counts_by earlier)
  counts_by (asked frame ∷ earlier) =
      record (counts_by earlier) { thresholds = (frame.ack_eliciting_threshold, frame.reordering_threshold) }
  counts_by (entry ∷ earlier) = counts_by earlier

  -- an ACK is required at once
  abbrev pub IsRequired : List (SpaceEntry P M) → Type 0
  IsRequired [] = ⊥
  IsRequired (heard now number eliciting ∷ earlier) =
      IsRequired earlier ⊎ (IsTrue eliciting × RequiresImmediateAck (InsertNumber number (ReceivedNumbers earlier))
      (counts_by earlier) number)
  IsRequired (ack_goes ∷ earlier) = ⊥
  IsRequired (ack_is_late ∷ earlier) = 0 < (counts_by earlier).eliciting
  IsRequired (entry ∷ earlier) = IsRequired earlier

-- the ACK delay timer starts at a new ack-eliciting packet, if it was not started since the last ACK and no ACK is
-- required at once. The arguments are the state before the packet
abbrev pub ArmsAckTimer : (ℕ → Type 0) → Type 0 → (ℕ → Type 0) → AckCounts → ℕ → Bool → Type 0
ArmsAckTimer Came Required Started counts number eliciting =
    IsTrue eliciting × (¬ ((m : ℕ) × Started m)) × ¬ (Required ⊎ RequiresImmediateAck
    (InsertNumber number Came) counts number)

-- the time when the ACK delay timer was started since the last ACK
abbrev pub StartedAt : {P M : Type 0} → List (SpaceEntry P M) → ℕ → Type 0
StartedAt [] moment = ⊥
StartedAt (heard now number eliciting ∷ earlier) moment =
    StartedAt earlier moment ⊎ ((moment ≡ now)
    × ArmsAckTimer (ReceivedNumbers earlier) (IsRequired earlier) (StartedAt earlier)
    (counts_by earlier) number eliciting)
StartedAt (ack_goes ∷ earlier) moment = ⊥
StartedAt (entry ∷ earlier) moment = StartedAt earlier moment

-- ---- the sets and propositions

-- of a space: the numbers received, whether an ACK is required at once, the pending ACKs, and the time when the ACK
-- delay timer was started since the last ACK
pub record AckState : Type 1 where
  pub came : ℕ → Type 0
  pub required : Type 0
  pub pending : ℕ → Type 0
  pub started : ℕ → Type 0

abbrev pub acks_by : {P M S : Type 0} → QueueSemantics P S → List (SpaceEntry P M) → AckState
acks_by words log =
    record {
      came = ReceivedNumbers log;
      required = IsRequired log;
      pending = ToAcknowledge words log;
      started =
          StartedAt log;
    }
