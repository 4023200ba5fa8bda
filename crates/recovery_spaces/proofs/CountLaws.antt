-- The counts of the tracked packets, when one is sent or removed. The calls of `SentPackets` rest on it.
use Rattle.std.proofs.lemmas.Bool.Decides.{nat_tests}
use Rattle.std.proofs.Common.{◌≡◌, ℕ, ◌+◌, ◌-◌, ◌<◌, ◌≤◌, ◌⊎◌, MatchOption, true, false, [], ◌∷◌, ◌++◌, length, Option, None, Some, refl, arith, filter}
use Rattle.std.specs.Prelude.{sum_by}
use Rattle.std.proofs.lemmas.List.Sums.{sum_by-cons}
use Rattle.recovery_spaces.specs.Packets.{Packet, Packets, Tracking, packet_at, without, most_silent, is_above, silent_above, least_number, forgotten_number}
use Rattle.recovery_spaces.specs.Counts.{silent_count, eliciting_count, size_count, elicits_count, AreCounted}
use Rattle.recovery_spaces.proofs.PacketLaws.{found-append, AllBelow, sum-without, silent_count-length, some_of, first_found, first_passes}

module _ {P M : Type 0} where
  -- a packet is forgotten when another is sent: it was tracked before, after the last ack-eliciting number, and counted
  abbrev pub IsForgotten : Packets P M → Option ℕ → ℕ → ℕ → Packet P M → ℕ → Packets P M → Packet P M → Type 0
  IsForgotten packets last sized number sent least mid gone =
      (packet_at packets least ≡ Some gone) × (is_above last least ≡ true) × (size_count gone ≤ sized)
      × (without mid least ≡ without packets least ++ (number, sent) ∷ [])

  -- nothing up to a number is counted above it
  pub none_above : (last : ℕ) (packets : Packets P M) → AllBelow packets (last + 1)
      → (sum_by (silent_count (Some last)) packets ≡ 0) × (sum_by (eliciting_count (Some last)) packets ≡ 0)
  none_above last [] below = (refl, refl)
  none_above last (entry ∷ packets) below =
      grind (
        arith,
        nat_tests,
        sum_by-cons (silent_count (Some last)) entry packets,
        sum_by-cons (eliciting_count (Some last)) entry packets,
        none_above last packets,
      )

  module _ {packets : Packets P M} {last : Option ℕ} {silent sized eliciting : ℕ}
      (counted : AreCounted packets last silent sized eliciting)
    where
      -- a packet that is removed: there is something to subtract from the counts
      pub counted_taken : (number : ℕ) (packet : Packet P M) → packet_at packets number ≡ Some packet
          → AreCounted (without packets number) last (silent - silent_count last (number, packet))
          (sized - size_count packet) (eliciting - elicits_count packet)
          × (silent_count last (number, packet) ≤ silent) × (size_count packet ≤ sized)
          × (elicits_count packet ≤ eliciting)
      counted_taken number packet found = grind (
        arith,
        sum-without (silent_count last) packets number packet found,
        sum-without (eliciting_count last) packets number packet found,
        sum-without (λ entry. size_count entry.1) packets number packet found,
        sum-without (λ entry. elicits_count entry.1) packets number packet found,
      )

      -- ---- limits

      -- at most `most_silent` non-ack-eliciting packets are after the last ack-eliciting number
      pub silent_bound : length (silent_above last packets) ≤ most_silent
      silent_bound = omega (arith, silent_count-length last packets, counted.bound, counted.silent_is)

      module _ {tracking : Tracking P M} (is : record { packets = packets; last_eliciting = last } ≡ tracking) where
        -- ---- what is forgotten

        pub none_forgotten : {inside packet : Packet P M} → inside ≡ packet
            → (inside.ack_eliciting ≡ true) ⊎ (silent < most_silent)
            → None ≡ forgotten_number tracking.last_eliciting packet tracking.packets
        none_forgotten view none =
            grind (arith, nat_tests, is, view, none, counted.silent_is, silent_count-length last packets)

        module _ {inside packet : Packet P M} (view : inside ≡ packet) (is_silent : inside.ack_eliciting ≡ false) where
          -- the smallest number after the last ack-eliciting one is forgotten, once there are this many
          -- non-ack-eliciting packets
          pub forgotten_is : most_silent ≤ silent → least_number (filter (λ entry. is_above last entry.0) packets)
              ≡ forgotten_number tracking.last_eliciting packet tracking.packets
          forgotten_is full = grind (
            arith,
            nat_tests,
            is,
            view,
            is_silent,
            counted.silent_is,
            counted.others,
            silent_count-length last packets,
          )

          pub silent_few : None ≡ forgotten_number tracking.last_eliciting packet tracking.packets → silent ≤ 1000
          silent_few none = grind (
            arith,
            nat_tests,
            is,
            view,
            is_silent,
            counted.silent_is,
            silent_count-length last packets,
          )

          -- what is forgotten is tracked, before and after one more is sent, and is counted
          pub forgotten_found : (number : ℕ) {least : ℕ} {mid : Packets P M} {taken : Option (Packet P M)}
              → Some least ≡ forgotten_number tracking.last_eliciting packet tracking.packets
              → mid ≡ packets ++ (number, packet) ∷ [] → taken ≡ packet_at mid least
              → MatchOption taken ⊥ (IsForgotten packets last sized number packet least mid)
          forgotten_found number {least} some more found =
              let its : Some least ≡ forgotten_number last packet packets = rw (← is) at some in
              let above : least_number (filter (λ entry. is_above last entry.0) packets) ≡ Some least =
              grind (arith, nat_tests, its, view, is_silent, counted.others, silent_count-length last packets) in
              let gone = some_of _ (first_found (λ entry. is_above last entry.0) packets least above) in
              let kept = found-append packets ((number, packet) ∷ []) least gone.0 gone.1 in
              rw (found, more, kept.0)
              (gone.1, first_passes last packets least above, (counted_taken least gone.0 gone.1).2, kept.1)
