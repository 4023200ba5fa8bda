-- How one more entry changes the ACKs of a space. `SpaceLaws` and the driver's `RepliesAfterLaws` rest on it.
use Rattle.std.proofs.Common.{◌≡◌, ℕ, ◌⊎◌, ◌↔◌, Bool, nat_lt, IsTrue, Option, None, Some, List, ◌∷◌, arith}
use Rattle.std.proofs.lemmas.Bool.Decides.{nat_tests}
use Rattle.recovery_base.specs.declared.below.frames.AckFrequency.{AckFrequency}
use Rattle.recovery_base.specs.Numbers.{RecentNumbers, InsertNumber}
use Rattle.recovery_base.proofs.WindowLaws.{HasGreatest, iff_trans, missing_with}
use Rattle.recovery_acks.specs.Acks.{AckCounts, Acks, RequiresImmediateAck, IsPending, acks_sent, with_required, with_thresholds}
use Rattle.recovery_acks.proofs.AckLaws.{out_of_order_alike}
use Rattle.recovery_acks.proofs.HighestRunLaws.{highest_alike}
use Rattle.recovery_queue.specs.Queues.{QueueSemantics}
use Rattle.recovery_spaces.specs.Acks.{ToAcknowledge, ArmsAckTimer, acks_by, counts_by}
use Rattle.recovery_spaces.specs.Packets.{Packet, packet_at, is_above}
use Rattle.recovery_spaces.specs.Received.{ReceivedNumbers}
use Rattle.recovery_spaces.specs.SpaceLog.{SpaceEntry, heard, acknowledged, ack_goes, ack_is_late, asked}
use Rattle.recovery_spaces.specs.Spaces.{AddsReceivedNumber, SubtractsLargest, AcksAfter}
use Rattle.recovery_spaces.specs.Tracked.{sent_by}
use Rattle.recovery_spaces.proofs.ReceivedLaws.{came_greatest}

-- ---- what is alike part by part

or_alike : {Old Here There : Type 0} → Here ↔ There → (Old ⊎ Here) ↔ (Old ⊎ There)
or_alike same = grind (arith, same)

heard_alike : {New Old Before Case Here There : Type 0} → New ↔ (Old ⊎ (Case × Here)) → Old ↔ Before → Here ↔ There
    → New ↔ (Before ⊎ (Case × There))
heard_alike step left same = grind (arith, step, left, same)

armed_alike : {Case Started Starts Required Requires Here There : Type 0} → Started ↔ Starts → Required ↔ Requires
    → Here ↔ There → (Case × (¬ Started) × ¬ (Required ⊎ Here)) ↔ (Case × (¬ Starts) × ¬ (Requires ⊎ There))
armed_alike since required same = grind (arith, since, required, same)

-- ---- by the numbers of the window or by all received

module _ (Here There : ℕ → Type 0) (greatest : HasGreatest There) (alike : (n : ℕ) → Here n ↔ RecentNumbers There n)
    (number : ℕ) where
  pub asks_alike : (counts : AckCounts)
      → RequiresImmediateAck (InsertNumber number Here) counts number ↔ RequiresImmediateAck
      (InsertNumber number There) counts number
  asks_alike counts = or_alike (out_of_order_alike (missing_with There Here greatest alike number) _ _ _ _ _)

  pub arms_alike : {Required Requires : Type 0} {Started Starts : ℕ → Type 0} → Required ↔ Requires
      → ((m : ℕ) → Started m ↔ Starts m) → (counts : AckCounts) (ack_eliciting : Bool)
      → ArmsAckTimer Here Required Started counts number ack_eliciting ↔ ArmsAckTimer There Requires Starts counts
      number ack_eliciting
  arms_alike same since counts ack_eliciting =
      armed_alike (λ s. (s.0, (since s.0).0 s.1), λ s. (s.0, (since s.0).1 s.1)) same (asks_alike counts)

module _ {P M S : Type 0} (words : QueueSemantics P S) (log : List (SpaceEntry P M)) (old : Acks)
    (left : AcksAfter (acks_by words log) (counts_by log) old) where
  abbrev Left : SpaceEntry P M → Acks → Type 0
  Left entry new = AcksAfter (acks_by words (entry ∷ log)) (counts_by (entry ∷ log)) new

  pub heard_law : (Known : ℕ → Type 0) → ((n : ℕ) → Known n ↔ RecentNumbers (ReceivedNumbers log) n)
      → (now number : ℕ) (ack_eliciting : Bool) (new : Acks) → AddsReceivedNumber Known old now number ack_eliciting new
      → Left (heard now number ack_eliciting) new
  heard_law Known known now number ack_eliciting new step = record {
    pending = λ n. iff_trans (step.pending n) (highest_alike more 64 n);
    required = heard_alike step.required left.required
        (rw (← left.counts) (asks_alike Known (ReceivedNumbers log) (came_greatest log) known number old.counts));
    started = λ m. heard_alike (step.started m) (left.started m) (rw (← left.counts)
        (arms_alike Known (ReceivedNumbers log) (came_greatest log) known number left.required left.started old.counts
        ack_eliciting));
    counts = rw (← left.counts) step.counts;
  }
    where
      more : (n : ℕ) → InsertNumber number (IsPending old) n ↔ InsertNumber number (ToAcknowledge words log) n
      more n = or_alike (left.pending n)

  pending_left : (largest : Option ℕ) (new : Acks) → SubtractsLargest largest old new
      → (n : ℕ) → IsPending new n ↔ (ToAcknowledge words log n × IsTrue (is_above largest n))
  pending_left None new step n = rw step (grind (arith, left.pending n))
  pending_left (Some last) new step n = grind (arith, nat_tests, step.pending n, left.pending n)

  pub acknowledged_law : (number : ℕ) (new : Acks) (packet : Packet P M)
      → packet_at (sent_by words log).tracked number ≡ Some packet → SubtractsLargest packet.largest_acked old new
      → Left (acknowledged number) new
  acknowledged_law number new packet found step =
      record {
        pending = λ n. rw found (pending_left packet.largest_acked new step n);
        required = grind (arith, step, left);
        started = λ m. grind (arith, step, left.started m);
        counts = grind (arith, step, left);
      }

  pub ack_goes_law : Left ack_goes (acks_sent old)
  ack_goes_law = grind (arith, left)

  pub ack_is_late_law : Left ack_is_late (with_required (nat_lt 0 old.counts.eliciting) old)
  ack_is_late_law = grind (arith, nat_tests, left)

  pub asked_law : (frame : AckFrequency)
      → Left (asked frame) (with_thresholds frame.ack_eliciting_threshold frame.reordering_threshold old)
  asked_law frame = grind (arith, left)
