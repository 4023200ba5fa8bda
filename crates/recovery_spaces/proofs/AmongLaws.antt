-- The packets among those that are tracked, when one is sent, removed or has other contents. `CoherentLaws` and the
-- balance of the paths rest on it.
use Rattle.std.proofs.Common.{arith, ◌≡◌, ℕ, ◌⊎◌, [], ◌∷◌, ◌++◌, Option, Some}
use Rattle.recovery_spaces.specs.Packets.{Packet, Packets, packet_at, without, without_some, with_contents, replaced, carrying, sent_onto, forgotten_number, IsAmong, AreAcknowledging, IsTooLarge}

module _ {P M : Type 0} where
  pub among_found : (packets : Packets P M) (number : ℕ) (packet : Packet P M) → packet_at packets number ≡ Some packet
      → IsAmong packets packet
  among_found [] number packet found = absurd (cc)
  among_found (entry ∷ packets) number packet found = grind (arith, among_found packets number packet)

  among_without : (packets : Packets P M) (number : ℕ) (packet : Packet P M) → IsAmong (without packets number) packet
      → IsAmong packets packet
  among_without [] number packet among = among
  among_without (entry ∷ packets) number packet among = grind (arith, among_without packets number packet)

  among_push : (packets : Packets P M) (number : ℕ) (more packet : Packet P M)
      → IsAmong (packets ++ (number, more) ∷ []) packet → IsAmong packets packet ⊎ (more ≡ packet)
  among_push [] number more packet among = grind arith
  among_push (entry ∷ packets) number more packet among = grind (arith, among_push packets number more packet)

  among_replaced : (packets : Packets P M) (number : ℕ) (other packet : Packet P M)
      → IsAmong (replaced number (Some other) packets) packet → IsAmong packets packet ⊎ (other ≡ packet)
  among_replaced [] number other packet among = absurd among
  among_replaced (entry ∷ packets) number other packet among =
      grind (arith, among_replaced packets number other packet)

-- ---- a property of every packet

module _ {P M : Type 0} (Holds : Packet P M → Type 0) where
  -- it holds of all packets
  abbrev pub OfAll : Packets P M → Type 0
  OfAll packets = (packet : Packet P M) → IsAmong packets packet → Holds packet

  pub all_without : (packets : Packets P M) (number : ℕ) → OfAll packets → OfAll (without packets number)
  all_without packets number all packet among = all packet (among_without packets number packet among)

  pub all_sent : (last : Option ℕ) (number : ℕ) (sent : Packet P M) (packets : Packets P M) → OfAll packets → Holds sent
      → OfAll (sent_onto last number sent packets)
  all_sent last number sent packets all one packet among =
      grind (
        arith,
        all,
        one,
        among_push (without_some packets (forgotten_number last sent packets)) number sent packet among,
        among_without packets,
      )

  pub all_carrying : (packets : Packets P M) (number : ℕ) (contents : P)
      → ((packet : Packet P M) → Holds packet → Holds (with_contents contents packet)) → OfAll packets
      → OfAll (carrying number contents packets)
  all_carrying packets number contents alike all packet among =
      grind (arith, among_replaced packets number, among_found packets number, all, alike)

-- ---- what packets acknowledge

module _ {P M : Type 0} where
  -- it acknowledges numbers of packets
  abbrev pub Acknowledges : Packet P M → Type 0
  Acknowledges packet = ¬ IsTooLarge packet.largest_acked

  pub acknowledging_found : (packets : Packets P M) → AreAcknowledging packets → (number : ℕ) (packet : Packet P M)
      → packet_at packets number ≡ Some packet → ¬ IsTooLarge packet.largest_acked
  acknowledging_found packets all number packet found = all packet (among_found packets number packet found)
