-- How many packets are left below a number, as a detection pass proceeds from packet to packet.
use Rattle.std.proofs.Common.{◌≡◌, ◌≢◌, ℕ, ◌+◌, ◌≤◌, ◌<◌, List, [], ◌∷◌, filter, length, None, refl, sym, ◌∙◌, inl, inr, arith}
use Rattle.std.proofs.lemmas.Bool.Decides.{nat_tests}
use Rattle.recovery_queue.specs.Slots.{is_below, is_from}
use Rattle.recovery_spaces.specs.Packets.{Packets, packet_at, without}
use Rattle.recovery_spaces.proofs.PacketLaws.{number_at}
use Rattle.recovery_losses.specs.Losses.{AreIncreasing, IsOneOf, count_below, without_all}
use Rattle.recovery_losses.proofs.DetectionPassLaws.{all_other, first_rises}

module _ {P M : Type 0} where
  -- how many are tracked from a number on, below an end
  abbrev pub count_between : ℕ → ℕ → Packets P M → ℕ
  count_between from end packets = length (filter (is_below end) (filter (is_from from) packets))

  pub count_first : (end : ℕ) (packets : Packets P M) → count_between 0 end packets ≡ count_below end packets
  count_first end [] = refl
  count_first end (entry ∷ packets) = grind (arith, nat_tests, count_first end packets)

  count_later : (from later end : ℕ) (packets : Packets P M) → from ≤ later
      → count_between later end packets ≤ count_between from end packets
  count_later from later end [] above = omega arith
  count_later from later end (entry ∷ packets) above =
      grind (arith, nat_tests, count_later from later end packets, above)

  -- after a tracked packet there is one fewer
  pub count_next : (from end number : ℕ) (packets : Packets P M) → packet_at packets number ≢ None → from ≤ number
      → number < end → count_between (number + 1) end packets + 1 ≤ count_between from end packets
  count_next from end number [] tracked above small = absurd (tracked refl)
  count_next from end number (entry ∷ packets) tracked above small =
      grind (
        arith,
        nat_tests,
        number_at number entry.0,
        count_next from end number packets,
        count_later from (number + 1) end packets,
        tracked,
        above,
        small,
      )

  -- without a packet there are no more
  pub count_without : (from end number : ℕ) (packets : Packets P M)
      → count_between from end (without packets number) ≤ count_between from end packets
  count_without from end number [] = omega arith
  count_without from end number (entry ∷ packets) =
      grind (arith, nat_tests, number_at number entry.0, count_without from end number packets)

  pub below_fewer : (least end : ℕ) (packets : Packets P M) → least ≤ end
      → count_below least packets ≤ count_below end packets
  below_fewer least end [] within = omega arith
  below_fewer least end (entry ∷ packets) within =
      grind (arith, nat_tests, below_fewer least end packets, within)

  pub below_all : (end : ℕ) (packets : Packets P M) → count_below end packets ≤ length packets
  below_all end [] = omega arith
  below_all end (entry ∷ packets) = grind (arith, below_all end packets)

  below_at_most : (end number : ℕ) (packets : Packets P M)
      → count_below end (without packets number) ≤ count_below end packets
  below_at_most end number [] = omega arith
  below_at_most end number (entry ∷ packets) =
      grind (arith, nat_tests, number_at number entry.0, below_at_most end number packets)

  below_without : (end number : ℕ) (packets : Packets P M) → packet_at packets number ≢ None → number < end
      → count_below end (without packets number) + 1 ≤ count_below end packets
  below_without end number [] tracked small = absurd (tracked refl)
  below_without end number (entry ∷ packets) tracked small =
      grind (
        arith,
        nat_tests,
        number_at number entry.0,
        below_without end number packets,
        below_at_most end number packets,
        tracked,
        small,
      )

  -- without some of those below an end, as many fewer
  pub below_without_all : (first end : ℕ) (numbers : List ℕ) (packets : Packets P M) → AreIncreasing first numbers end
      → ((number : ℕ) → IsOneOf number numbers → packet_at packets number ≢ None)
      → count_below end (without_all packets numbers) + length numbers ≤ count_below end packets
  below_without_all first end [] packets rising tracked = omega arith
  below_without_all first end (number ∷ numbers) packets rising tracked = omega (
    arith,
    below_without_all (number + 1) end numbers (without packets number) rising.1 still,
    below_without end number packets (tracked number (inl refl))
        (omega (arith, below_end (number + 1) numbers rising.1)),
  )
    where
      below_end : (from : ℕ) (numbers : List ℕ) → AreIncreasing from numbers end → from ≤ end
      below_end from [] rising = rising
      below_end from (next ∷ numbers) rising = omega (arith, rising.0, below_end (next + 1) numbers rising.1)

      apart : (other : ℕ) → IsOneOf other numbers → IsOneOf other (number ∷ []) → ⊥
      apart other there (inl same) =
          absurd (omega (arith, same, first_rises (number + 1) end numbers other rising.1 there))
      apart other there (inr never) = never

      still : (other : ℕ) → IsOneOf other numbers → packet_at (without packets number) other ≢ None
      still other there none =
          tracked other (inr there) (sym (all_other packets (number ∷ []) other (apart other there)) ∙ none)
