-- What a frame newly acknowledges, number after number.
use Rattle.std.proofs.Common.{◌≡◌, ◌≢◌, ℕ, ◌+◌, ◌≤◌, ◌<◌, ◌⊎◌, ◌||◌, true, false, Bool, IsTrue, List, [], ◌∷◌, ◌++◌, length, drop, get_or, ◌↔◌, None, Some, filter, Decides, true≢false, refl, sym, ap, subst, ◌∙◌, inl, inr, arith}
use Rattle.std.proofs.lemmas.Bool.Decides.{leb_tells}
use Rattle.std.proofs.lemmas.List.{drop_more}
use Rattle.std.proofs.lemmas.Option.{none-some, same_Some}
use Rattle.recovery_spaces.specs.Packets.{Packet, Packets, packet_at, first_from}
use Rattle.recovery_spaces.proofs.PacketLaws.{some_of}
use Rattle.recovery_queue.specs.Slots.{is_from, AreFrom}
use Rattle.recovery_losses.specs.Losses.{AreIncreasing, IsOneOf}
use Rattle.recovery_losses.proofs.DetectionPassLaws.{among_more, last_among, one_more, rising_more, rising_wider}
use Rattle.recovery_losses.proofs.LossLaws.{found_from, lowest_from}
use Rattle.recovery_sender.specs.Acks.{AreNewlyAcked, IsFirstIn, HasNoneTracked, HasAckEliciting, TrackedInRange}
use Rattle.recovery_losses.proofs.FrameLaws.{AreFine}
use Rattle.recovery_losses.specs.Frames.{IsInAckRanges}

module _ {P M : Type 0} (from last : ℕ) (packets : Packets P M) where
  pub none_of_range : (least : ℕ) → AreFrom least (filter (is_from from) packets) → last < least
      → HasNoneTracked packets from last
  none_of_range least all beyond number packet there above below =
      absurd (omega (arith, beyond, below, lowest_from from least packets all number packet there above))

  pub first_of_range : (number : ℕ) (packet : Packet P M) (elicits : Bool) → elicits ≡ packet.ack_eliciting
      → first_from from packets ≡ Some (number, packet) → AreFrom number (filter (is_from from) packets)
      → number ≤ last → IsFirstIn packets from last (number, elicits)
  first_of_range number packet elicits same first all within =
      let found = found_from from packets number packet first in
      record {
        packet = packet;
        is = found.0;
        elicits = sym same;
        from_on = found.1;
        up_to = within;
        first = lowest_from from number packets all;
      }

-- ---- whether one is ack-eliciting

module _ {P M : Type 0} (packets : Packets P M) where
  one_before : (first : ℕ) (numbers : List ℕ) (last : ℕ) (packet : Packet P M)
      → (HasAckEliciting packets (numbers ++ last ∷ []) → HasAckEliciting packets numbers ⊎ IsTrue packet.ack_eliciting)
      × (HasAckEliciting packets numbers ⊎ IsTrue packet.ack_eliciting → HasAckEliciting packets (numbers ++ last ∷ []))
      → (HasAckEliciting packets (first ∷ (numbers ++ last ∷ [])) → HasAckEliciting packets (first ∷ numbers)
      ⊎ IsTrue packet.ack_eliciting)
      × (HasAckEliciting packets (first ∷ numbers) ⊎ IsTrue packet.ack_eliciting
      → HasAckEliciting packets (first ∷ (numbers ++ last ∷ [])))
  one_before first numbers last packet rest = (to, from)
    where
      to : HasAckEliciting packets (first ∷ (numbers ++ last ∷ [])) → HasAckEliciting packets (first ∷ numbers)
          ⊎ IsTrue packet.ack_eliciting
      to (inl found) = inl (inl found)
      to (inr there) = elim (rest.0 there) [ inl before ↦ inl (inr before) | inr now ↦ inr now ]

      from : HasAckEliciting packets (first ∷ numbers) ⊎ IsTrue packet.ack_eliciting
          → HasAckEliciting packets (first ∷ (numbers ++ last ∷ []))
      from (inl (inl found)) = inl found
      from (inl (inr there)) = inr (rest.1 (inl there))
      from (inr now) = inr (rest.1 (inr now))

  elicits_more : (numbers : List ℕ) (last : ℕ) (packet : Packet P M) → packet_at packets last ≡ Some packet
      → (HasAckEliciting packets (numbers ++ last ∷ []) → HasAckEliciting packets numbers ⊎ IsTrue packet.ack_eliciting)
      × (HasAckEliciting packets numbers ⊎ IsTrue packet.ack_eliciting → HasAckEliciting packets (numbers ++ last ∷ []))
  elicits_more [] last packet is = (to, from)
    where
      to : HasAckEliciting packets (last ∷ []) → ⊥ ⊎ IsTrue packet.ack_eliciting
      to (inl found) = inr (ap (λ (p : Packet P M). p.ack_eliciting)
          (same_Some packet found.0 (sym is ∙ found.1)) ∙ found.2)
      to (inr never) = absurd never

      from : ⊥ ⊎ IsTrue packet.ack_eliciting → HasAckEliciting packets (last ∷ [])
      from (inl never) = absurd never
      from (inr elicits) = inl (packet, is, elicits)
  elicits_more (first ∷ numbers) last packet is = one_before first numbers last packet
      (elicits_more numbers last packet is)

  decided_more : (numbers : List ℕ) (last : ℕ) (packet : Packet P M) (before elicits : Bool)
      → packet_at packets last ≡ Some packet → packet.ack_eliciting ≡ elicits
      → Decides before (HasAckEliciting packets numbers)
      → Decides (before || elicits) (HasAckEliciting packets (numbers ++ last ∷ []))
  decided_more numbers last packet true elicits is same decides =
      (λ yes. (elicits_more numbers last packet is).1 (inl (decides.0 refl)), λ there. refl)
  decided_more numbers last packet false elicits is same decides = (
    λ yes. (elicits_more numbers last packet is).1 (inr (same ∙ yes)),
    λ there.
        elim ((elicits_more numbers last packet is).0 there) [
          | inl before ↦ absurd (true≢false (sym (decides.1 before)))
          | inr now ↦ sym same ∙ now
        ],
  )

-- ---- a range is scanned

module _ {P M : Type 0} (packets : Packets P M) (first last : ℕ) (before : List ℕ) where
  pub takes_none : (elicits : Bool) → AreIncreasing 0 before first → Decides elicits (HasAckEliciting packets before)
      → TrackedInRange packets first first before before elicits
  takes_none elicits rising decides = record {
    rising = rising;
    each = λ number. (
      (λ there. inl there),
      λ either. elim either [
        | inl there ↦ there
        | inr within ↦ absurd (omega (arith, within.0, within.1))
      ],
    );
    elicits = decides;
  }

  pub takes_one : (from : ℕ) (numbers : List ℕ) (elicits : Bool) (found : ℕ × Bool) → first ≤ from
      → TrackedInRange packets first from before numbers elicits → IsFirstIn packets from last found
      → TrackedInRange packets first (found.0 + 1) before (numbers ++ found.0 ∷ []) (elicits || found.1)
  takes_one from numbers elicits found on takes is = record {
    rising = rising_more 0 from found.0 numbers takes.rising is.from_on;
    each = λ number. (to number, back number);
    elicits = decided_more packets numbers found.0 is.packet elicits found.1 is.is is.elicits takes.elicits;
  }
    where
      to : (number : ℕ) → IsOneOf number (numbers ++ found.0 ∷ []) → IsOneOf number before
          ⊎ ((first ≤ number) × (number < found.0 + 1) × (packet_at packets number ≢ None))
      to number there = elim (one_more numbers found.0 number there) [
        | inl earlier ↦ elim ((takes.each number).0 earlier) [
          | inl was ↦ inl was
          | inr within ↦ inr (within.0, omega (arith, within.1, is.from_on), within.2)
        ]
        | inr same ↦ inr (
          omega (arith, same, on, is.from_on),
          omega (arith, same),
          λ none. none-some is.packet (sym none ∙ ap (λ n. packet_at packets n) (sym same) ∙ is.is),
        )
      ]

      back : (number : ℕ) → IsOneOf number before
          ⊎ ((first ≤ number) × (number < found.0 + 1) × (packet_at packets number ≢ None))
          → IsOneOf number (numbers ++ found.0 ∷ [])
      back number (inl was) = among_more numbers found.0 number ((takes.each number).1 (inl was))
      back number (inr within) = elim (leb_tells from number) [
        | inl above ↦ (
            let some = some_of (packet_at packets number) within.2 in
            let least = is.first number some.0 some.1 above.1 in
            subst (λ n. IsOneOf n (numbers ++ found.0 ∷ [])) (omega (arith, least, within.1))
            (last_among numbers found.0)
            )
        | inr under ↦ among_more numbers found.0 number ((takes.each number).1 (inr (within.0, under.1, within.2)))
      ]

  pub takes_all : (from : ℕ) (numbers : List ℕ) (elicits : Bool) → from ≤ last + 1
      → TrackedInRange packets first from before numbers elicits → HasNoneTracked packets from last
      → TrackedInRange packets first (last + 1) before numbers elicits
  takes_all from numbers elicits within takes none = record {
    rising = rising_wider 0 from (last + 1) numbers takes.rising within;
    each = λ number. (to number, back number);
    elicits = takes.elicits;
  }
    where
      to : (number : ℕ) → IsOneOf number numbers → IsOneOf number before
          ⊎ ((first ≤ number) × (number < last + 1) × (packet_at packets number ≢ None))
      to number there = elim ((takes.each number).0 there) [
        | inl was ↦ inl was
        | inr inside ↦ inr (inside.0, omega (arith, inside.1, within), inside.2)
      ]

      back : (number : ℕ) → IsOneOf number before
          ⊎ ((first ≤ number) × (number < last + 1) × (packet_at packets number ≢ None)) → IsOneOf number numbers
      back number (inl was) = (takes.each number).1 (inl was)
      back number (inr inside) = elim (leb_tells from number) [
        | inl above ↦ (
            let some = some_of (packet_at packets number) inside.2 in
            absurd (none number some.0 some.1 above.1 (omega (arith, inside.1)))
            )
        | inr under ↦ (takes.each number).1 (inr (inside.0, under.1, inside.2))
      ]

-- ---- the next range

module _ {P M : Type 0} (packets : Packets P M) (ranges : List (ℕ × ℕ)) (fine : AreFine None ranges) (at : ℕ)
    (within : at < length ranges) (numbers more : List ℕ) (found elicits : Bool) where
  abbrev range : ℕ × ℕ
  range = get_or ranges at (0, 0)

  pub newly_on : AreNewlyAcked packets ranges (at + 1) numbers found
      → TrackedInRange packets range.0 (range.1 + 1) numbers more elicits → AreNewlyAcked packets ranges at more elicits
  newly_on newly takes = record {
    rising = (range.1 + 1, takes.rising);
    below = λ i less. rising_wider 0 (range.1 + 1) (get_or ranges i (0, 0)).0 more takes.rising
        (omega (arith, fine.apart i at less within));
    each = λ number. subst (λ rest. IsOneOf number more ↔ (IsInAckRanges number rest ×
        (packet_at packets number ≢ None)))
        (sym (drop_more ranges at (0, 0) within)) (to number, back number);
    elicits = takes.elicits;
  }
    where
      to : (number : ℕ) → IsOneOf number more → IsInAckRanges number (range ∷ drop (at + 1) ranges)
          × (packet_at packets number ≢ None)
      to number there = elim ((takes.each number).0 there) [
        | inl before ↦ (let was = (newly.each number).0 before in (inr was.0, was.1))
        | inr inside ↦ (inl (inside.0, omega (arith, inside.1)), inside.2)
      ]

      back : (number : ℕ) → IsInAckRanges number (range ∷ drop (at + 1) ranges) × (packet_at packets number ≢ None)
          → IsOneOf number more
      back number (inl inside, tracked) = (takes.each number).1 (inr (inside.0, omega (arith, inside.1), tracked))
      back number (inr there, tracked) = (takes.each number).1 (inl ((newly.each number).1 (there, tracked)))
