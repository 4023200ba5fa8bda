-- An ACK frame: what it newly acknowledges, and its errors (RFC 9000, 13.1 and 21.4; RFC 9002, A.7).
use Rattle.std.specs.Prelude.{◌≡◌, ◌≢◌, ℕ, ◌<◌, ◌≤◌, ◌↔◌, ◌⊎◌, Decides, Bool, IsTrue, true, false, List, [], ◌∷◌, drop, get_or, length, None, Some, IfSome, Result, Ok, Err}
use Rattle.recovery_base.specs.declared.below.SpaceId.{SpaceId}
use Rattle.recovery_events.specs.declared.event.Answer.TheVariants.{Done}
use Rattle.recovery_events.specs.declared.event.Event.TheVariants.{CheckAck}
use Rattle.recovery_events.specs.declared.event.Refusal.TheVariants.{BadRange, SpaceDiscarded}
use Rattle.recovery_spaces.specs.Discarded.{is_discarded}
use Rattle.recovery_spaces.specs.Packets.{Packet, Packets, packet_at}
use Rattle.recovery_spaces.specs.Spaces.{space_of, next_number_of}
use Rattle.recovery_losses.specs.Frames.{are_ranges, largest_of, IsInAckRanges}
use Rattle.recovery_losses.specs.Losses.{IsOneOf, AreIncreasing}
use Rattle.quic_recovery.specs.declared.driver.Recovery.{Recovery}
use Rattle.quic_recovery.specs.State.{state_of, ReadOnlyTransition}
use Rattle.recovery_sender.specs.declared.sender.SenderError.{SenderError}
use Rattle.recovery_sender.specs.declared.sender.SenderError.TheVariants as refused

-- ---- what is newly acknowledged

-- one of them is ack-eliciting
abbrev pub HasAckEliciting : {P M : Type 0} → Packets P M → List ℕ → Type 0
HasAckEliciting packets [] = ⊥
HasAckEliciting {P} {M} packets (number ∷ numbers) =
    ((packet : Packet P M) × (packet_at packets number ≡ Some packet) × IsTrue packet.ack_eliciting)
    ⊎ HasAckEliciting packets numbers

-- ---- one range after another, from the lowest

-- the first tracked number from `from` up to `last`, and whether its packet is ack-eliciting
pub record IsFirstIn {P M : Type 0} (packets : Packets P M) (from last : ℕ) (found : ℕ × Bool) : Type 0 where
  pub packet : Packet P M
  pub is : packet_at packets found.0 ≡ Some packet
  pub elicits : packet.ack_eliciting ≡ found.1
  pub from_on : from ≤ found.0
  pub up_to : found.0 ≤ last
  pub first : (number : ℕ) (other : Packet P M) → packet_at packets number ≡ Some other → from ≤ number
      → found.0 ≤ number

abbrev pub HasNoneTracked : {P M : Type 0} → Packets P M → ℕ → ℕ → Type 0
HasNoneTracked {P} {M} packets from last =
    (number : ℕ) (packet : Packet P M) → packet_at packets number ≡ Some packet → from ≤ number → number ≤ last → ⊥

-- the tracked numbers from `first` on and below `end` follow others
pub record TrackedInRange {P M : Type 0} (packets : Packets P M) (first end : ℕ) (before after : List ℕ) (found : Bool)
    : Type 0
  where
    pub rising : AreIncreasing 0 after end
    pub each : (number : ℕ) → IsOneOf number after
        ↔ (IsOneOf number before ⊎ ((first ≤ number) × (number < end) × (packet_at packets number ≢ None)))
    pub elicits : Decides found (HasAckEliciting packets after)

-- the tracked numbers of the ranges from an index on: increasing, and below all ranges before that index; and whether
-- one of them is ack-eliciting
pub record AreNewlyAcked {P M : Type 0} (packets : Packets P M) (ranges : List (ℕ × ℕ)) (place : ℕ) (numbers : List ℕ)
    (found : Bool) : Type 0 where
  pub rising : (end : ℕ) × AreIncreasing 0 numbers end
  pub below : (at : ℕ) → at < place → AreIncreasing 0 numbers (get_or ranges at (0, 0)).0
  pub each : (number : ℕ) → IsOneOf number numbers
      ↔ (IsInAckRanges number (drop place ranges) × (packet_at packets number ≢ None))
  pub elicits : Decides found (HasAckEliciting packets numbers)

-- ---- the errors of a frame

-- no range holds a 1-RTT packet number that was skipped (RFC 9000, 21.4)
abbrev pub AreNotSkipped : {F Q R C K S M P : Type 0} {f : _} {c : _} {q : _} {m : _} {r : _} → SpaceId → List (ℕ × ℕ)
    → Recovery F Q R C K S M P f c q m r → Type 0
AreNotSkipped space ranges recovery = (at : ℕ) → at < length ranges →
    let range = get_or ranges at (0, 0) in ReadOnlyTransition (CheckAck space range.0 range.1) recovery (Ok Done)

-- a space that is not discarded, and valid ranges
abbrev pub IsAckWellFormed : {F Q R C K S M P : Type 0} {f : _} {c : _} {q : _} {m : _} {r : _} → SpaceId → List (ℕ × ℕ)
    → Recovery F Q R C K S M P f c q m r → Type 0
IsAckWellFormed space ranges recovery =
    (is_discarded space (state_of recovery).discarded ≡ false) × (are_ranges ranges ≡ true)

-- all numbers were sent (RFC 9000, 13.1)
abbrev pub WereSent : {F Q R C K S M P : Type 0} {f : _} {c : _} {q : _} {m : _} {r : _} → SpaceId → List (ℕ × ℕ)
    → Recovery F Q R C K S M P f c q m r → Type 0
WereSent space ranges recovery = IfSome (largest_of ranges)
    (λ largest. largest < next_number_of (space_of space (state_of recovery).spaces))

-- a frame is valid, or fails with the first error that applies: a discarded space, invalid ranges, a number that was
-- never sent, a number that was skipped
abbrev pub AckChecked : {F Q R C K S M P : Type 0} {f : _} {c : _} {q : _} {m : _} {r : _} → SpaceId → List (ℕ × ℕ)
    → Recovery F Q R C K S M P f c q m r → Result (Unit {0}) SenderError → Type 0
AckChecked space ranges recovery (Ok done) =
    IsAckWellFormed space ranges recovery × WereSent space ranges recovery × AreNotSkipped space ranges recovery
AckChecked space ranges recovery (Err refused.Unsent) =
    IsAckWellFormed space ranges recovery × (WereSent space ranges recovery → ⊥)
AckChecked space ranges recovery (Err refused.DataSpace) = ⊥
AckChecked space ranges recovery (Err (refused.Event refusal)) =
    (is_discarded space (state_of recovery).discarded ≡ true) × (refusal ≡ SpaceDiscarded)
    ⊎ ((is_discarded space (state_of recovery).discarded ≡ false) × (are_ranges ranges ≡ false) × (refusal ≡ BadRange)
    ⊎ IsAckWellFormed space ranges recovery × WereSent space ranges recovery × (at : ℕ) × (at < length ranges)
    × (let range = get_or ranges at (0, 0) in ReadOnlyTransition (CheckAck space range.0 range.1) recovery
    (Err refusal)))
