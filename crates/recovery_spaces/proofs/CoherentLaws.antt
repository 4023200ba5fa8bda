-- The parts of a space are consistent, whatever happens in it. The balance of the paths, and so each call of the driver
-- on a space, rests on it.
use Rattle.std.proofs.Common.{◌≡◌, ℕ, ◌+◌, ◌≤◌, Bool, [], refl, arith, Option, None, Some}
use Rattle.recovery_base.specs.declared.below.SpaceId.{SpaceId}
use Rattle.recovery_acks.specs.Acks.{new_acks}
use Rattle.recovery_queue.specs.Queues.{QueueSemantics}
use Rattle.recovery_spaces.specs.Ledger.{AreCoherent}
use Rattle.recovery_spaces.specs.Packets.{Packet, Packets, no_packets, forgotten_number, IsTooLarge, AreAcknowledging, after_sending, after_taking}
use Rattle.recovery_spaces.specs.Probes.{ProbeFound}
use Rattle.recovery_spaces.specs.Spaces.{Space, Spaces, space_of, tracking_of, packets_of, acks_of, next_number_of, HasGreatestCome, IsCoherent, one_probe_more, space_probes, space_loses}
use Rattle.recovery_spaces.proofs.AmongLaws.{Acknowledges, all_without, all_sent, all_carrying}
use Rattle.recovery_spaces.proofs.PacketLaws.{AllBelow, all_below, are_below, AllBelow-without, AllBelow-push, AllBelow-carrying, AllBelow-without_some}

module _ {P M : Type 0} where
  -- the largest ack-eliciting number received is unchanged
  pub come_kept : (old here : Space P M) → HasGreatestCome old → acks_of here ≡ acks_of old → here.dedup ≡ old.dedup
      → HasGreatestCome here
  come_kept old here come acks dedup = rw (acks, dedup) come

  -- ---- one space

  module _ (old here : Space P M) (coherent : IsCoherent old) (received : HasGreatestCome here) where
    own : AllBelow (packets_of old) (next_number_of old)
    own = all_below _ _ coherent.packets

    -- the packets have numbers below the next one, and acknowledge numbers below 2^62
    coherent_by : {packets : Packets P M} → tracking_of here ≡ record (tracking_of old) { packets = packets }
        → next_number_of here ≡ next_number_of old → AllBelow packets (next_number_of old) → AreAcknowledging packets
        → IsCoherent here
    coherent_by {packets} same next below acknowledging =
        grind (arith, same, next, coherent, received, are_below packets (next_number_of old) below, acknowledging)

    -- nothing that is tracked changes
    pub coherent_kept : tracking_of here ≡ tracking_of old → next_number_of here ≡ next_number_of old → IsCoherent here
    coherent_kept same next = coherent_by {packets = packets_of old} same next own coherent.acknowledging

    -- a tracked packet leaves
    pub coherent_taken : (number : ℕ) → tracking_of here ≡ after_taking number (tracking_of old)
        → next_number_of here ≡ next_number_of old → IsCoherent here
    coherent_taken number same next =
        coherent_by same next (AllBelow-without _ number _ own)
        (all_without Acknowledges _ number coherent.acknowledging)

    -- nothing is tracked any more
    pub coherent_emptied : tracking_of here ≡ record (tracking_of old) { packets = [] }
        → next_number_of here ≡ next_number_of old → IsCoherent here
    coherent_emptied same next = coherent_by same next tt (λ packet among. absurd among)

    -- a packet is sent under the next number, or one above it
    pub coherent_sent : (number : ℕ) (packet : Packet P M) → next_number_of old ≤ number
        → (¬ IsTooLarge packet.largest_acked) → tracking_of here ≡ after_sending number packet (tracking_of old)
        → next_number_of here ≡ number + 1 → IsCoherent here
    coherent_sent number packet above small tracking next =
        let below = AllBelow-without_some (packets_of old) (forgotten_number (tracking_of old).last_eliciting packet
        (packets_of old)) number (all_below _ _ (λ n p found. omega (arith, coherent.packets n p found, above))) in
        record {
          packets = rw (tracking, next) (are_below _ _ (AllBelow-push _ number packet below));
          last = λ m is. grind (arith, tracking, is, coherent.last m, above, next);
          acknowledging = rw tracking (all_sent Acknowledges (tracking_of old).last_eliciting number
              packet (packets_of old) coherent.acknowledging small);
          received = received;
        }

  -- ---- probes and queues

  module _ {S : Type 0} (words : QueueSemantics P S) (old : Space P M) (coherent : IsCoherent old) where
    pub coherent_probed : (immediate nothing : Bool) (moved : Option ℕ)
        → (let found : ProbeFound = record { moved = moved; nothing = nothing } in
        IsCoherent (space_probes words immediate found (one_probe_more old)))
    coherent_probed immediate nothing (Some number) =
        coherent_by old _ coherent coherent.received refl refl
        (AllBelow-carrying (packets_of old) number words.empty _ (own old old coherent coherent.received))
        (all_carrying Acknowledges (packets_of old) number words.empty (λ packet holds. holds) coherent.acknowledging)
    coherent_probed immediate nothing None = coherent_kept old _ coherent coherent.received refl refl

    pub coherent_lost : (number : ℕ) → IsCoherent (space_loses words number old)
    coherent_lost number = coherent_taken old _ coherent coherent.received number refl refl

  -- ---- a fresh start

  pub fresh_coherent : (spaces : Spaces P M) → ((space : SpaceId) → tracking_of (space_of space spaces) ≡ no_packets)
      → ((space : SpaceId) → acks_of (space_of space spaces) ≡ new_acks []) → AreCoherent spaces
  fresh_coherent spaces none no_acks space = grind (arith, none space, no_acks space)
