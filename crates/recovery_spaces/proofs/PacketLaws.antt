-- Tracked packets: sums over them and look-ups among them when one is sent or removed. All laws of tracked packets rest
-- on it.
use Rattle.std.proofs.Common.{◌≡◌, ◌≢◌, ◌↔◌, ℕ, ◌+◌, ◌≤◌, Bool, true, [], ◌∷◌, ◌++◌, length, filter, Option, None, Some, refl, sym, arith}
use Rattle.std.specs.Prelude.{sum_by}
use Rattle.std.specs.Ordering.{nat_cmp}
use Rattle.std.specs.Cmp.{Equal-is}
use Rattle.std.specs.BTreeMap.{is_at}
use Rattle.std.proofs.lemmas.List.Sums.{sum_by-cons}
use Rattle.std.proofs.lemmas.Bool.Decides.{nat_tests}
use Rattle.std.proofs.lemmas.Map.Lookups.{exact_unsigned}
use Rattle.recovery_queue.proofs.SlotLaws.{at_itself}
pub use Rattle.recovery_queue.proofs.SlotEntryLaws.{AllBelow, all_below}
use Rattle.recovery_spaces.specs.Packets.{Packet, Packets, packet_at, without, without_some, replaced, carrying, AreBelow, HasSize, HasEliciting, is_above, is_silent_above, silent_above, least_number, forgotten_number, entry_at, entry_number}
use Rattle.recovery_spaces.specs.Counts.{silent_count, eliciting_count, size_count, elicits_count}

pub number_at : (number other : ℕ) → is_at (nat_cmp number) other ≡ true → other ≡ number
number_at number other e = sym (exact_unsigned number other ((Equal-is (nat_cmp number other)).0 e))

pub some_of : {A : Type 0} (there : Option A) → there ≢ None → (a : A) × (there ≡ Some a)
some_of None some = absurd (some refl)
some_of (Some a) some = (a, refl)

module _ {P M : Type 0} where
  -- ---- look-ups

  pub none_found : {A : Type 0} (packet : Packet P M) → None ≡ Some packet → A
  none_found packet e = cc

  pub are_below : (packets : Packets P M) (limit : ℕ) → AllBelow packets limit → AreBelow packets limit
  are_below [] limit below number packet found = none_found packet found
  are_below (entry ∷ packets) limit below number packet found =
      grind (arith, number_at number entry.0, are_below packets limit below.1 number packet)

  pub found-append : (packets more : Packets P M) (number : ℕ) (packet : Packet P M)
      → packet_at packets number ≡ Some packet → (packet_at (packets ++ more) number ≡ Some packet)
      × (without (packets ++ more) number ≡ without packets number ++ more)
  found-append [] more number packet found = none_found packet found
  found-append (entry ∷ packets) more number packet found = grind (arith, found-append packets more number packet)

  -- ---- numbers below another

  pub AllBelow-without : (packets : Packets P M) (number limit : ℕ) → AllBelow packets limit
      → AllBelow (without packets number) limit
  AllBelow-without [] number limit below = tt
  AllBelow-without (entry ∷ packets) number limit below =
      grind (arith, AllBelow-without packets number limit)

  pub AllBelow-without_some : (packets : Packets P M) (forgotten : Option ℕ) (limit : ℕ) → AllBelow packets limit
      → AllBelow (without_some packets forgotten) limit
  AllBelow-without_some packets forgotten limit below = grind (arith, AllBelow-without)

  pub AllBelow-replaced : (packets : Packets P M) (number : ℕ) (packet : Packet P M) (limit : ℕ)
      → AllBelow packets limit → AllBelow (replaced number (Some packet) packets) limit
  AllBelow-replaced [] number packet limit below = tt
  AllBelow-replaced (entry ∷ packets) number packet limit below =
      grind (arith, AllBelow-replaced packets number packet limit)

  pub AllBelow-carrying : (packets : Packets P M) (number : ℕ) (contents : P) (limit : ℕ) → AllBelow packets limit
      → AllBelow (carrying number contents packets) limit
  AllBelow-carrying packets number contents limit below = grind (arith, AllBelow-replaced)

  pub AllBelow-push : (packets : Packets P M) (number : ℕ) (packet : Packet P M) → AllBelow packets number
      → AllBelow (packets ++ (number, packet) ∷ []) (number + 1)
  AllBelow-push [] number packet below = (omega arith, tt)
  AllBelow-push (entry ∷ packets) number packet below = grind (arith, AllBelow-push packets number packet)

  -- ---- sums

  -- a packet that is removed leaves the sum
  pub sum-without : (f : ℕ × Packet P M → ℕ) (packets : Packets P M) (number : ℕ) (packet : Packet P M)
      → packet_at packets number ≡ Some packet
      → sum_by f (without packets number) + f (number, packet) ≡ sum_by f packets
  sum-without f [] number packet found = none_found packet found
  sum-without f (entry ∷ packets) number packet found =
      grind (arith, sum_by-cons f, number_at number entry.0, sum-without f packets number packet)

  -- other contents of a packet do not change a sum that does not depend on them
  pub sum-replaced : (f : ℕ × Packet P M → ℕ) (packets : Packets P M) (number : ℕ) (packet other : Packet P M)
      → packet_at packets number ≡ Some packet
      → ((n : ℕ) → f (n, other) ≡ f (n, packet)) → sum_by f (replaced number (Some other) packets) ≡ sum_by f packets
  sum-replaced f [] number packet other found alike = none_found packet found
  sum-replaced f (entry ∷ packets) number packet other found alike =
      grind (arith, sum_by-cons f, alike entry.0, sum-replaced f packets number packet other)

  -- the count of non-ack-eliciting packets is their number, and if no packet after the last ack-eliciting number is
  -- ack-eliciting, they are all that is after it
  pub silent_count-length : (last : Option ℕ) (packets : Packets P M)
      → (length (silent_above last packets) ≡ sum_by (silent_count last) packets)
      × (sum_by (eliciting_count last) packets ≡ 0
      → filter (λ entry. is_above last entry.0) packets ≡ silent_above last packets)
  silent_count-length last [] = grind arith
  silent_count-length last (entry ∷ packets) =
      grind (
        arith,
        sum_by-cons (silent_count last) entry packets,
        sum_by-cons (eliciting_count last) entry packets,
        silent_count-length last packets,
      )

  pub sized_counted : (packets : Packets P M) → (let sized = sum_by (λ entry. size_count entry.1) packets in
      (sized ≤ length packets) × ((sized ≢ 0) ↔ HasSize packets))
  sized_counted [] = (omega arith, (λ some. some refl, λ sized none. sized))
  sized_counted (entry ∷ packets) =
      grind (
        arith,
        nat_tests,
        sum_by-cons (λ (p : ℕ × Packet P M). size_count p.1) entry packets,
        sized_counted packets,
      )

  -- ack-eliciting packets are counted, and if none is counted there is none
  pub eliciting_counted : (packets : Packets P M) → (let eliciting = sum_by (λ entry. elicits_count entry.1) packets in
      (eliciting ≤ length packets) × ((eliciting ≢ 0) ↔ HasEliciting packets))
  eliciting_counted [] = (omega arith, (λ some. some refl, λ eliciting none. eliciting))
  eliciting_counted (entry ∷ packets) =
      grind (
        arith,
        nat_tests,
        sum_by-cons (λ (p : ℕ × Packet P M). elicits_count p.1) entry packets,
        eliciting_counted packets,
      )

  -- ---- non-ack-eliciting packets

  -- the first number that passes a test is that of a packet
  pub first_found : (test : ℕ × Packet P M → Bool) (packets : Packets P M) (number : ℕ)
      → least_number (filter test packets) ≡ Some number → packet_at packets number ≢ None
  first_found test [] number e = absurd (cc)
  first_found test (entry ∷ packets) number e = grind (arith, at_itself number, first_found test packets number)

  pub first_passes : (last : Option ℕ) (packets : Packets P M) (number : ℕ)
      → least_number (filter (λ entry. is_above last entry.0) packets) ≡ Some number → is_above last number ≡ true
  first_passes last [] number e = absurd (cc)
  first_passes last (entry ∷ packets) number e = grind (arith, first_passes last packets number)

  pub without-absent : (packets : Packets P M) (number : ℕ) → packet_at packets number ≡ None
      → without packets number ≡ packets
  without-absent [] number absent = refl
  without-absent (entry ∷ packets) number absent = grind (arith, without-absent packets number)

  -- ---- the number that is forgotten is that of a packet

  -- the number that is returned is the one that is forgotten
  pub entry_number_of : (last : Option ℕ) (packet : Packet P M) (packets : Packets P M)
      → entry_number (entry_at packets (forgotten_number last packet packets)) ≡ forgotten_number last packet packets
  entry_number_of last packet packets = grind (arith, first_found (is_silent_above last) packets)
