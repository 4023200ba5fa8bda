-- The counters of each path stay the sums over the tracked packets of its generation. `BalanceLaws` of the paths rest
-- on it.
use Rattle.std.proofs.lemmas.Bool.Decides.{nat_tests}
use Rattle.std.proofs.Common.{◌≡◌, ◌≢◌, ℕ, ◌+◌, inl, inr, [], ◌∷◌, Option, None, Some, refl, arith}
use Rattle.std.specs.Prelude.{sum_by, option_map}
use Rattle.std.proofs.lemmas.List.Sums.{sum_by_push, sum_by-cons}
use Rattle.recovery_base.specs.declared.below.SpaceId.{SpaceId}
use Rattle.recovery_base.specs.declared.below.SpaceId.TheVariants.{Initial, Handshake, Data}
use Rattle.recovery_spaces.specs.InFlight.{size_in, eliciting_in, IsCountedIn}
use Rattle.recovery_spaces.specs.Ledger.{tracked_by, IsBalancedOn}
use Rattle.recovery_spaces.specs.Packets.{Packet, Packets, packet_at, without, with_contents, carrying, without_some, forgotten_number, sent_onto, entry_at, IsAmong}
use Rattle.recovery_spaces.specs.Paths.{PathLedger, generation_of, counters_of, after_leaving, after_forgetting, path_after_sending, IsCountedOn}
use Rattle.recovery_spaces.specs.Spaces.{Space, Spaces, with_space, packets_of}
use Rattle.recovery_spaces.proofs.CarryLaws.{sum-carrying}
use Rattle.recovery_spaces.proofs.PacketLaws.{sum-without, without-absent}

-- what a packet that is forgotten subtracts from a sum
abbrev pub gone : {P M : Type 0} → (ℕ × Packet P M → ℕ) → Option (ℕ × Packet P M) → ℕ
gone f None = 0
gone f (Some entry) = f entry

pub sum-sent_onto : {P M : Type 0} (f : ℕ × Packet P M → ℕ) (last : Option ℕ) (number : ℕ) (packet : Packet P M)
    (packets : Packets P M)
    → sum_by f (sent_onto last number packet packets) + gone f
    (entry_at packets (forgotten_number last packet packets)) ≡ sum_by f packets + f (number, packet)
sum-sent_onto {P} {M} f last number packet packets =
    omega (arith, sum_by_push f (without_some packets forgotten) (number, packet), left forgotten)
  where
    forgotten : Option ℕ
    forgotten = forgotten_number last packet packets

    left : (number : Option ℕ) → sum_by f (without_some packets number) + gone f (entry_at packets number)
        ≡ sum_by f packets
    left number = grind (arith, sum-without f packets, without-absent packets)

module _ {P M : Type 0} (path : PathLedger) where
  abbrev size : ℕ × Packet P M → ℕ
  size = size_in (generation_of path)

  abbrev eliciting : ℕ × Packet P M → ℕ
  eliciting = eliciting_in (generation_of path)

  abbrev AreCounted : Packets P M → Type 0
  AreCounted = IsCountedIn (counters_of path) (generation_of path)

  -- the packets of a space change, and the counters by as much
  pub record Follows (old new : Packets P M) (after : PathLedger) : Type 0 where
    pub generation : generation_of after ≡ generation_of path
    pub bytes : (counters_of after).bytes + sum_by size old ≡ (counters_of path).bytes + sum_by size new
    pub count : (counters_of after).ack_eliciting + sum_by eliciting old
        ≡ (counters_of path).ack_eliciting + sum_by eliciting new

  -- a space that is emptied packet by packet: the first leaves the counters, and the rest is still counted
  pub first_leaves : (entry : ℕ × Packet P M) (rest : Packets P M) → AreCounted (entry ∷ rest)
      → IsCountedOn path entry.1 × IsCountedIn (counters_of (after_leaving path entry.1)) (generation_of path) rest
      × Follows (entry ∷ rest) rest (after_leaving path entry.1)
  first_leaves entry rest counted =
      grind (arith, nat_tests, sum_by-cons size entry rest, sum_by-cons eliciting entry rest)

  module _ (packets : Packets P M) where
    -- a tracked packet has other contents
    pub carrying_follows : (number : ℕ) (contents : P) → Follows packets (carrying number contents packets) path
    carrying_follows number contents =
        grind (
          arith,
          sum-carrying packets number size contents (λ n packet. refl),
          sum-carrying packets number eliciting contents (λ n packet. refl),
        )

    module _ (counted : AreCounted packets) where
      -- a tracked packet leaves, whatever its contents: if it is the path's, it is counted
      pub lost_follows : (number : ℕ) (contents : P) (packet : Packet P M)
          → option_map (with_contents contents) (packet_at packets number) ≡ Some packet
          → IsCountedOn path packet × Follows packets (without packets number) (after_leaving path packet)
      lost_follows number contents packet is = go (packet_at packets number) refl is
        where
          go : (there : Option (Packet P M)) → packet_at packets number ≡ there
              → option_map (with_contents contents) there ≡ Some packet
              → IsCountedOn path packet × Follows packets (without packets number) (after_leaving path packet)
          go None found is = absurd (cc (is))
          go (Some old) found is = grind (
            arith,
            nat_tests,
            is,
            sum-without size packets number old found,
            sum-without eliciting packets number old found,
          )

      module _ (last : Option ℕ) (packet : Packet P M) where
        abbrev forgotten : Option (ℕ × Packet P M)
        forgotten = entry_at packets (forgotten_number last packet packets)

        -- a packet that is forgotten is counted, if it is the path's
        pub forgotten_counted : (entry : ℕ × Packet P M) → forgotten ≡ Some entry → IsCountedOn path entry.1
        forgotten_counted entry is = grind (
          arith,
          nat_tests,
          sum-sent_onto size last 0 packet packets,
          sum-sent_onto eliciting last 0 packet packets,
          sum_by_push,
        )

        -- a packet is sent on the path, or on another
        pub sent_follows : (number : ℕ)
            → (packet.path_generation ≡ generation_of path
            → Follows packets (sent_onto last number packet packets) (path_after_sending path packet forgotten))
            × (packet.path_generation ≢ generation_of path
            → Follows packets (sent_onto last number packet packets) (after_forgetting path forgotten))
        sent_follows number = grind (
          arith,
          nat_tests,
          sum-sent_onto size last number packet packets,
          sum-sent_onto eliciting last number packet packets,
        )

  -- ---- a path on which nothing is in flight

  abbrev IsNone : Packets P M → Type 0
  IsNone packets = (sum_by size packets ≡ 0) × (sum_by eliciting packets ≡ 0)

  abbrev IsElsewhere : Packets P M → Type 0
  IsElsewhere packets = (packet : Packet P M) → IsAmong packets packet → packet.path_generation ≢ generation_of path

  none_in : (packets : Packets P M) → IsElsewhere packets → IsNone packets
  none_in [] none = (refl, refl)
  none_in (entry ∷ packets) none =
      grind (
        arith,
        nat_tests,
        sum_by-cons size entry packets,
        sum_by-cons eliciting entry packets,
        none entry.1 (inl refl),
        none_in packets (λ packet among. none packet (inr among)),
      )

  -- no packet of its generation is tracked yet
  pub none_balanced : (spaces : Spaces P M) → ((space : SpaceId) → IsElsewhere (tracked_by spaces space))
      → counters_of path ≡ record { bytes = 0; ack_eliciting = 0 } → IsBalancedOn spaces path
  none_balanced spaces none zero =
      let none_of : (space : SpaceId) → IsNone (tracked_by spaces space) = λ space. none_in _ (none space) in
      grind (arith, zero, none_of Initial, none_of Handshake, none_of Data)

-- ---- one space among three

module _ {P M : Type 0} (spaces : Spaces P M) (path : PathLedger) (balanced : IsBalancedOn spaces path) where
  -- the packets of a space are counted
  pub space_counted : (space : SpaceId) → AreCounted path (tracked_by spaces space)
  space_counted Initial = grind (arith, balanced)
  space_counted Handshake = grind (arith, balanced)
  space_counted Data = grind (arith, balanced)

  pub balanced_by : (space : SpaceId) (here : Space P M) (after : PathLedger)
      → Follows path (tracked_by spaces space) (packets_of here) after
      → IsBalancedOn (with_space spaces space here) after
  balanced_by Initial here after follows = grind (arith, balanced, follows)
  balanced_by Handshake here after follows = grind (arith, balanced, follows)
  balanced_by Data here after follows = grind (arith, balanced, follows)
