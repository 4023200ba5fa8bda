-- A tracked packet whose contents are exchanged. `queue_lost` and `lose` rest on it.
use Rattle.std.proofs.Common.{arith, ◌≡◌, ℕ, [], ◌∷◌, Some}
use Rattle.std.specs.Prelude.{option_map, sum_by}
use Rattle.recovery_queue.specs.Queues.{QueueSemantics}
use Rattle.recovery_spaces.specs.Packets.{Packet, Packets, Tracking, packet_at, without, with_contents, replaced, carrying, contents_or, after_carrying}
use Rattle.recovery_spaces.specs.Spaces.{Space, packets_of, space_moves, space_loses, space_takes}
use Rattle.recovery_spaces.proofs.PacketLaws.{none_found, sum-replaced}

-- a packet that replaces another
put : {P M : Type 0} (packets : Packets P M) (number : ℕ) (packet other : Packet P M)
    → packet_at packets number ≡ Some packet → (let new = replaced number (Some other) packets in
    (packet_at new number ≡ Some other) × (without new number ≡ without packets number)
    × (replaced number (Some packet) new ≡ packets))
put [] number packet other found = none_found packet found
put (entry ∷ packets) number packet other found = grind (arith, put packets number packet other)

module _ {P M : Type 0} where
  module _ (packets : Packets P M) (number : ℕ) where
    -- other contents of the packet of a number, and its own put back
    pub carried : (contents other : P) → (let new = carrying number contents packets in
        (packet_at new number ≡ option_map (with_contents contents) (packet_at packets number))
        × (without new number ≡ without packets number)
        × (carrying number (contents_or other (packet_at packets number)) new ≡ packets))
    carried contents other =
        grind (arith, λ (packet : Packet P M). put packets number packet (with_contents contents packet))

    -- a sum that does not depend on the contents
    pub sum-carrying : (f : ℕ × Packet P M → ℕ) (contents : P)
        → ((n : ℕ) (packet : Packet P M) → f (n, with_contents contents packet) ≡ f (n, packet))
        → sum_by f (carrying number contents packets) ≡ sum_by f packets
    sum-carrying f contents alike =
        grind (
          arith,
          alike,
          λ (packet : Packet P M). sum-replaced f packets number packet
              (with_contents contents packet),
        )

  pub tracking_back : (tracking : Tracking P M) (number : ℕ) (contents other : P)
      → after_carrying number (contents_or other (packet_at tracking.packets number))
      (after_carrying number contents tracking) ≡ tracking
  tracking_back tracking number contents other = grind (arith, carried tracking.packets number contents other)

-- a packet whose contents were moved, and that is removed, was lost
pub moved_taken : {P M S : Type 0} (words : QueueSemantics P S) (number : ℕ) (space : Space P M)
    → space_takes number (space_moves words number space) ≡ space_loses words number space
moved_taken words number space = grind (arith, carried (packets_of space) number words.empty words.empty)
