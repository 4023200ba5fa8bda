-- Each lost packet is tried once, as a detection pass proceeds from packet to packet.
use Rattle.std.proofs.Common.{◌≡◌, ◌≢◌, ℕ, ◌+◌, ◌≤◌, ◌<◌, ◌⊎◌, List, [], ◌∷◌, ◌++◌, None, Some, sym, ap, ◌∙◌, inl, inr, arith}
use Rattle.std.proofs.lemmas.Option.{same_Some}
use Rattle.std.proofs.lemmas.Bool.Decides.{leb_tells}
use Rattle.recovery_spaces.specs.Packets.{Packet, Packets, packet_at}
use Rattle.recovery_losses.specs.declared.looks.Candidate.{Candidate}
use Rattle.recovery_losses.specs.declared.looks.LossPass.{LossPass}
use Rattle.recovery_losses.specs.declared.tally.Tally.{Tally}
use Rattle.recovery_losses.specs.DetectionPass.{PassSoFar, TriesEachLost}
use Rattle.recovery_losses.specs.Losses.{IsBelow, IsLost, IsLostBelow, IsNextLossCandidate, NoneFrom, cutting, waiting}
use Rattle.recovery_losses.proofs.DetectionPassLaws.{all_other, among_more, last_among, one_more, rising_below, rising_more, rising_wider}

module _ {P M : Type 0} (look : LossPass) (old : Packets P M) where
  pub tries_first : TriesEachLost look old 0 [] None
  tries_first = record {
    lost = record { rising = omega arith; lost = λ number none. absurd none };
    each = λ number lost none. absurd (omega (arith, none));
  }

  -- a pass that was cut has the same result otherwise
  pub looked_cut : (end : ℕ) (numbers : List ℕ) (tally : Tally) (now : Packets P M)
      → PassSoFar look old end numbers (waiting look.at tally) now
      → PassSoFar look old end numbers (cutting look tally) now
  looked_cut end numbers tally now looked = record {
    lost = looked.lost;
    taken = looked.taken;
    probe = looked.probe;
    earliest = looked.earliest;
    bytes = looked.bytes;
    last_sent = looked.last_sent;
    run = looked.run;
  }

  module _ (from : ℕ) (numbers tried : List ℕ) (tally : Tally) (now : Packets P M)
      (looked : PassSoFar look old from numbers tally now) (tries : TriesEachLost look old from tried tally.probe)
    where
      still : (number : ℕ) → from ≤ number → packet_at now number ≡ packet_at old number
      still number above = ap (λ (packets : Packets P M). packet_at packets number) looked.taken
          ∙ all_other old numbers number
          (λ there. absurd (omega (arith, above, rising_below 0 from numbers number looked.lost.rising there)))

      pub tries_end : (end : ℕ) → from ≤ end → NoneFrom look now from → TriesEachLost look old end tried tally.probe
      tries_end end above none = record {
        lost = record { rising = rising_wider 0 from end tried tries.lost.rising above; lost = tries.lost.lost };
        each = λ number lost small. elim (leb_tells from number) [
          | inl on ↦ absurd (none number lost.0 (still number on.1 ∙ lost.1.0, lost.1.1) on.1)
          | inr under ↦ tries.each number lost under.1
        ];
      }

      module _ (next : Candidate) (is : IsNextLossCandidate look now from next) where
        here : IsBelow look old next.number is.packet
        here = (sym (still next.number is.from_on) ∙ is.below.0, is.below.1)

        or_next : (number : ℕ) (packet : Packet P M) → IsBelow look old number packet → number < next.number + 1
            → (number < from) ⊎ (number ≡ next.number)
        or_next number packet below small = elim (leb_tells from number) [
          | inl on ↦ (
              let first = is.first number packet (still number on.1 ∙ below.0) on.1 in
              inr (omega (arith, small, first))
              )
          | inr under ↦ inl under.1
        ]

        -- it is not lost
        pub tries_waiting : (IsLost look next.number next.time_sent → ⊥)
            → TriesEachLost look old (next.number + 1) tried tally.probe
        tries_waiting not_lost = record {
          lost = record {
            rising = rising_wider 0 from (next.number + 1) tried tries.lost.rising (omega (arith, is.from_on));
            lost = tries.lost.lost;
          };
          each = λ number lost small. elim (or_next number lost.0 lost.1 small) [
            | inl under ↦ tries.each number lost under
            | inr same ↦ absurd (not_lost (lost_next number lost same))
          ];
        }
          where
            lost_next : (number : ℕ) (lost : IsLostBelow look old number) → number ≡ next.number
                → IsLost look next.number next.time_sent
            lost_next number lost same =
                let sent : lost.0.time_sent ≡ is.packet.time_sent = ap (λ (p : Packet P M). p.time_sent)
                (same_Some lost.0 is.packet (sym lost.1.0 ∙ ap (λ n. packet_at old n) same ∙ here.0)) in
                rw (← same, is.is.time_sent, ← sent) lost.2

        -- it is the MTU probe
        pub tries_probe : look.probe ≡ Some next.number
            → TriesEachLost look old (next.number + 1) tried look.probe
        tries_probe probe = record {
          lost = record {
            rising = rising_wider 0 from (next.number + 1) tried tries.lost.rising (omega (arith, is.from_on));
            lost = tries.lost.lost;
          };
          each = λ number lost small. elim (or_next number lost.0 lost.1 small) [
            | inl under ↦ elim (tries.each number lost under) [
              | inl there ↦ inl there
              | inr told ↦ inr (looked.probe number told).0
            ]
            | inr same ↦ inr (probe ∙ ap (λ n. Some n) (sym same))
          ];
        }

        -- it is tried
        pub tries_more : IsLost look next.number next.time_sent → look.probe ≢ Some next.number
            → TriesEachLost look old (next.number + 1) (tried ++ next.number ∷ []) tally.probe
        tries_more lost other = record {
          lost = record {
            rising = rising_more 0 from next.number tried tries.lost.rising is.from_on;
            lost = λ number there. elim (one_more tried next.number number there) [
              | inl before ↦ tries.lost.lost number before
              | inr same ↦ rw (← same) ((is.packet, here, rw (← is.is.time_sent) lost), other)
            ];
          };
          each = λ number was small. elim (or_next number was.0 was.1 small) [
            | inl under ↦ elim (tries.each number was under) [
              | inl there ↦ inl (among_more tried next.number number there)
              | inr told ↦ inr told
            ]
            | inr same ↦ inl (rw same (last_among tried next.number))
          ];
        }
