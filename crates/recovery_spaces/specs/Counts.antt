-- The counts that are stored with the tracked packets (RFC 9002, A.1).
use Rattle.std.specs.Prelude.{◌≡◌, ℕ, ◌<◌, ◌≤◌, ◌==◌, ◌&&◌, sum_by, List, [], ◌∷◌, true, Option, if◌then◌else◌}
use Rattle.recovery_base.specs.Units.{u64_limit}
use Rattle.recovery_queue.specs.declared.slots.Slot.{Slot}
use Rattle.recovery_queue.specs.Slots.{entries_in, IsClosedUp}
use Rattle.recovery_queue.specs.Queues.{QueueSemantics, IsVoid}
use Rattle.recovery_spaces.specs.Packets.{Packet, Packets, AreBelow, most_silent, is_above, is_silent_above}

abbrev pub silent_count : {P M : Type 0} → Option ℕ → ℕ × Packet P M → ℕ
silent_count last entry = if is_silent_above last entry then 1 else 0

abbrev pub eliciting_count : {P M : Type 0} → Option ℕ → ℕ × Packet P M → ℕ
eliciting_count last entry = if is_above last entry.0 && entry.1.ack_eliciting then 1 else 0

-- one for an ack-eliciting packet
abbrev pub elicits_count : {P M : Type 0} → Packet P M → ℕ
elicits_count packet = if packet.ack_eliciting then 1 else 0

abbrev pub size_count : {P M : Type 0} → Packet P M → ℕ
size_count packet = if packet.size == 0 then 0 else 1

-- Counted are the non-ack-eliciting packets (RFC 9002, 2) after the last ack-eliciting number, at most `most_silent`,
-- after which there is no other kind; the packets with a size; and the ack-eliciting ones.
pub record AreCounted {P M : Type 0} (packets : Packets P M) (last : Option ℕ)
    (silent sized eliciting : ℕ) : Type 0 where
  pub silent_is : silent ≡ sum_by (silent_count last) packets
  pub others : sum_by (eliciting_count last) packets ≡ 0
  pub sized_is : sized ≡ sum_by (λ entry. size_count entry.1) packets
  pub eliciting_is : eliciting ≡ sum_by (λ entry. elicits_count entry.1) packets
  pub bound : silent ≤ most_silent

-- the packets above a number are not below another
abbrev pub AreAboveFrom : {P M : Type 0} → Option ℕ → ℕ → Packets P M → Type 0
AreAboveFrom last from [] = Unit {0}
AreAboveFrom last from (entry ∷ packets) =
    (is_above last entry.0 ≡ true → from ≤ entry.0) × AreAboveFrom last from packets

-- the packets below a number have no contents, whatever streams the test is passed
abbrev pub AreVoidBelow : {P M S : Type 0} → QueueSemantics P S → ℕ → Packets P M → Type 0
AreVoidBelow words from [] = Unit {0}
AreVoidBelow words from (entry ∷ packets) =
    (entry.0 < from → IsVoid words entry.1.retransmits) × AreVoidBelow words from packets

-- The counts are right, the slots are closed up, and the searches for non-ack-eliciting packets and for contents start
-- at numbers below which there are none.
pub record AreTracked {P M S : Type 0} (words : QueueSemantics P S) (slots : List (Slot (Packet P M)))
    (last : Option ℕ) (silent sized eliciting from filled_from : ℕ) : Type 0 where
  pub counted : AreCounted (entries_in slots) last silent sized eliciting
  pub closed : IsClosedUp slots
  pub found : AreAboveFrom last from (entries_in slots)
  pub small : AreBelow (entries_in slots) u64_limit
  pub void : AreVoidBelow words filled_from (entries_in slots)
