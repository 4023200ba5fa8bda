-- The ACK frame of an endpoint (RFC 9000, 13.2.3, 13.4.1 and 19.3), from the numbers that are to be acknowledged and
-- the packets received, the newest first.
use Rattle.std.specs.Prelude.{◌≡◌, ℕ, suc, ◌≤◌, ◌⊎◌, ◌↔◌, ◌&&◌, not, min, Bool, if◌then◌else◌, List, [], ◌∷◌, Option, None, Some}
use Rattle.recovery_acks.specs.Acks.{Acks, IsPending, delay_at}
use Rattle.recovery_base.specs.declared.below.frames.EcnCounts.{EcnCounts}
use Rattle.recovery_base.specs.Units.{last_time}
use Rattle.recovery_network.specs.declared.ack.Arrival.{Arrival}
use Rattle.recovery_network.specs.declared.ack.EcnMarks.{EcnMarks}
use Rattle.recovery_network.specs.declared.ack.Frame.{Frame}

-- ---- marks

-- how many packets came marked (RFC 3168), and how many could be marked and were not
abbrev pub count_of : (Arrival → Bool) → List Arrival → ℕ
count_of test [] = 0
count_of test (it ∷ earlier) = if test it then suc (count_of test earlier) else count_of test earlier

abbrev pub marked_in : List Arrival → ℕ
marked_in = count_of (λ arrival. arrival.is_marked)

abbrev pub unmarked_in : List Arrival → ℕ
unmarked_in = count_of (λ arrival. arrival.packet.is_ect && not arrival.is_marked)

pub record AreMarksOf (received : List Arrival) (marks : EcnMarks) : Type 0 where
  pub marked : marks.marked ≡ min last_time (marked_in received)
  pub unmarked : marks.unmarked ≡ min last_time (unmarked_in received)

-- A frame has counts of marks if there were any packets that could be marked (RFC 9000, 19.3.2).
abbrev pub AreCounts : List Arrival → Option EcnCounts → Type 0
AreCounts received None = (marked_in received ≡ 0) × (unmarked_in received ≡ 0)
AreCounts received (Some counts) = (counts.ce ≡ min last_time (marked_in received))
    × (counts.ect0 ≡ min last_time (unmarked_in received)) × (counts.ect1 ≡ 0)

-- ---- the frame

-- the number is in its ranges
abbrev pub IsInAck : ℕ → List (ℕ × ℕ) → Type 0
IsInAck n [] = ⊥
IsInAck n (range ∷ ranges) = ((range.0 ≤ n) × (n ≤ range.1)) ⊎ IsInAck n ranges

pub record IsFrameFrom (now : ℕ) (acks : Acks) (marks : EcnMarks) (frame : Frame) : Type 0 where
  -- the time since the largest number was received (RFC 9000, 13.2.5)
  pub delay : frame.delay ≡ delay_at now acks.counts.largest
  -- exactly the numbers that are to be acknowledged (RFC 9000, 13.2.3)
  pub numbers : (n : ℕ) → IsInAck n frame.ranges.items ↔ IsPending acks n
  pub counts : (received : List Arrival) → AreMarksOf received marks → AreCounts received frame.ecn
