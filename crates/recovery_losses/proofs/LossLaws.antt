-- The packets that a pass scans, in order.
use Rattle.std.proofs.Common.{◌≡◌, ℕ, ◌≤◌, ◌<◌, [], ◌∷◌, None, Some, arith, filter}
use Rattle.recovery_spaces.specs.Packets.{Packet, Packets, packet_at, first_from}
use Rattle.recovery_queue.specs.Slots.{is_from, AreFrom}
use Rattle.recovery_losses.specs.declared.looks.Candidate.{Candidate}
use Rattle.recovery_losses.specs.declared.looks.LossPass.{LossPass}
use Rattle.recovery_losses.specs.Losses.{IsNextLossCandidate, IsCandidateOf, NoneFrom}

module _ {P M : Type 0} where
  pub none_from : (from : ℕ) (packets : Packets P M) → first_from from packets ≡ None
      → (number : ℕ) (packet : Packet P M) → packet_at packets number ≡ Some packet → from ≤ number → ⊥
  none_from from [] none number packet is above = absurd cc
  none_from from (entry ∷ packets) none number packet is above =
      let rest = none_from from packets in grind (arith, rest, none, is, above)

  pub found_from : (from : ℕ) (packets : Packets P M) (number : ℕ) (packet : Packet P M)
      → first_from from packets ≡ Some (number, packet)
      → (packet_at packets number ≡ Some packet) × (from ≤ number)
  found_from from [] number packet is = absurd cc
  found_from from (entry ∷ packets) number packet is =
      let rest = found_from from packets number packet in grind (arith, rest, is)

  pub lowest_from : (from least : ℕ) (packets : Packets P M) → AreFrom least (filter (is_from from) packets)
      → (number : ℕ) (packet : Packet P M) → packet_at packets number ≡ Some packet → from ≤ number → least ≤ number
  lowest_from from least [] all number packet is above = absurd cc
  lowest_from from least (entry ∷ packets) all number packet is above =
      let rest = lowest_from from least packets in grind (arith, rest, all, is, above)

module _ {P M : Type 0} (look : LossPass) (from : ℕ) (packets : Packets P M) where
  pub none_in : first_from from packets ≡ None → NoneFrom look packets from
  none_in none number packet below above = none_from from packets none number packet below.0 above

  pub none_below : (least : ℕ) → AreFrom least (filter (is_from from) packets) → look.largest ≤ least
      → NoneFrom look packets from
  none_below least all large number packet below above =
      let at_least = lowest_from from least packets all number packet below.0 above in
      absurd (omega (arith, at_least, large, below.1))

  pub next_in : (packet : Packet P M) (candidate : Candidate) → IsCandidateOf packet candidate
      → first_from from packets ≡ Some (candidate.number, packet)
      → AreFrom candidate.number (filter (is_from from) packets) → candidate.number < look.largest
      → IsNextLossCandidate look packets from candidate
  next_in packet candidate is first all small =
      let found = found_from from packets candidate.number packet first in
      record {
        packet = packet;
        is = is;
        below = (found.0, small);
        from_on = found.1;
        first = lowest_from from candidate.number packets all;
      }
