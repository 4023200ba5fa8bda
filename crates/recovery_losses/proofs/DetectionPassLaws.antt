-- A pass proceeds from packet to packet: the result below one number gives the result below the next.
use Rattle.std.proofs.Common.{◌≡◌, ◌≢◌, ℕ, ◌+◌, ◌-◌, ◌^◌, ◌≤◌, ◌<◌, ◌⊎◌, min, true, false, true≢false, Bool, List, [], ◌∷◌, ◌++◌, Option, None, Some, if◌then◌else◌, refl, sym, ap, subst, ◌∙◌, inl, inr, arith}
use Rattle.std.proofs.lemmas.Option.{none-some, same_Some}
use Rattle.std.proofs.lemmas.Bool.Decides.{eqb_tells, leb_tells}
use Rattle.std.specs.Option.{ForSome}
use Rattle.recovery_base.specs.Timers.{earlier_of}
use Rattle.recovery_spaces.specs.Packets.{Packet, Packets, packet_at, without}
use Rattle.recovery_spaces.proofs.PacketLaws.{number_at}
use Rattle.recovery_losses.specs.declared.looks.Candidate.{Candidate}
use Rattle.recovery_losses.specs.declared.looks.LossPass.{LossPass}
use Rattle.recovery_losses.specs.declared.tally.Run.{Run}
use Rattle.recovery_losses.specs.declared.tally.Tally.{Tally}
use Rattle.recovery_losses.proofs.PersistentCongestionLaws.{run_end, run_first, run_like, run_on}
use Rattle.recovery_losses.specs.DetectionPass.{PassSoFar}
use Rattle.recovery_losses.specs.PersistentCongestion.{IsEndAt, IsLossRun}
use Rattle.recovery_losses.specs.Losses.{AreLost, AreIncreasing, IsBelow, IsDueAt, IsEarliest, IsLost, IsLostBelow, IsNextLossCandidate, IsOneOf, IsDeclaredLost, NoneFrom, bytes_counted, counting, finding_probe, going_on, is_counted, is_end, last_counted, later_of, nothing_found, sent_counted, size_counted, waiting, without_all}

-- ---- numbers

pub one_more : (numbers : List ℕ) (last number : ℕ) → IsOneOf number (numbers ++ last ∷ []) → IsOneOf number numbers
    ⊎ (last ≡ number)
one_more [] last number (inl is) = inr is
one_more [] last number (inr never) = absurd never
one_more (first ∷ numbers) last number (inl is) = inl (inl is)
one_more (first ∷ numbers) last number (inr there) = elim (one_more numbers last number there) [
  | inl among ↦ inl (inr among)
  | inr is ↦ inr is
]

pub among_more : (numbers : List ℕ) (last number : ℕ) → IsOneOf number numbers → IsOneOf number (numbers ++ last ∷ [])
among_more [] last number never = absurd never
among_more (first ∷ numbers) last number (inl is) = inl is
among_more (first ∷ numbers) last number (inr there) = inr (among_more numbers last number there)

pub last_among : (numbers : List ℕ) (last : ℕ) → IsOneOf last (numbers ++ last ∷ [])
last_among [] last = inl refl
last_among (first ∷ numbers) last = inr (last_among numbers last)

pub rising_more : (first end last : ℕ) (numbers : List ℕ) → AreIncreasing first numbers end → end ≤ last
    → AreIncreasing first (numbers ++ last ∷ []) (last + 1)
rising_more first end last [] rising above = (omega (arith, rising, above), omega arith)
rising_more first end last (number ∷ numbers) rising above =
    (rising.0, rising_more (number + 1) end last numbers rising.1 above)

pub rising_wider : (first end wider : ℕ) (numbers : List ℕ) → AreIncreasing first numbers end → end ≤ wider
    → AreIncreasing first numbers wider
rising_wider first end wider [] rising above = omega (arith, rising, above)
rising_wider first end wider (number ∷ numbers) rising above =
    (rising.0, rising_wider (number + 1) end wider numbers rising.1 above)

at_most : (first end : ℕ) (numbers : List ℕ) → AreIncreasing first numbers end → first ≤ end
at_most first end [] rising = rising
at_most first end (number ∷ numbers) rising =
    omega (arith, rising.0, at_most (number + 1) end numbers rising.1)

pub rising_below : (first end : ℕ) (numbers : List ℕ) (number : ℕ) → AreIncreasing first numbers end
    → IsOneOf number numbers → number < end
rising_below first end [] number rising never = absurd never
rising_below first end (one ∷ numbers) number rising (inl is) =
    omega (arith, is, at_most (one + 1) end numbers rising.1)
rising_below first end (one ∷ numbers) number rising (inr there) =
    rising_below (one + 1) end numbers number rising.1 there

pub first_rises : (first end : ℕ) (numbers : List ℕ) (number : ℕ) → AreIncreasing first numbers end
    → IsOneOf number numbers → first ≤ number
first_rises first end [] number rising never = absurd never
first_rises first end (one ∷ numbers) number rising (inl is) = omega (arith, is, rising.0)
first_rises first end (one ∷ numbers) number rising (inr there) =
    omega (arith, rising.0, first_rises (one + 1) end numbers number rising.1 there)

-- ---- packets

module _ {P M : Type 0} where
  without_other : (packets : Packets P M) (taken number : ℕ) → taken ≢ number
      → packet_at (without packets taken) number ≡ packet_at packets number
  without_other [] taken number other = refl
  without_other (entry ∷ packets) taken number other =
      grind (arith, number_at number entry.0, number_at taken entry.0, without_other packets taken number other, other)

  pub all_other : (packets : Packets P M) (numbers : List ℕ) (number : ℕ) → (IsOneOf number numbers → ⊥)
      → packet_at (without_all packets numbers) number ≡ packet_at packets number
  all_other packets [] number other = refl
  all_other packets (first ∷ numbers) number other =
      all_other (without packets first) numbers number (λ there. other (inr there))
      ∙ without_other packets first number (λ is. other (inl is))

  pub without_more : (packets : Packets P M) (numbers : List ℕ) (last : ℕ)
      → without_all packets (numbers ++ last ∷ []) ≡ without (without_all packets numbers) last
  without_more packets [] last = refl
  without_more packets (first ∷ numbers) last = without_more (without packets first) numbers last

-- ---- sums and latest times

later_none : (time : Option ℕ) → later_of time None ≡ time
later_none None = refl
later_none (Some time) = refl

later_joins : (one two three : Option ℕ) → later_of (later_of one two) three ≡ later_of one (later_of two three)
later_joins None two three = refl
later_joins (Some one) None three = refl
later_joins (Some one) (Some two) None = refl
later_joins (Some one) (Some two) (Some three) = ap (λ t. Some t) (omega arith)

module _ {P M : Type 0} (look : LossPass) (packets : Packets P M) where
  bytes_more : (numbers : List ℕ) (last : ℕ) → bytes_counted look packets (numbers ++ last ∷ [])
      ≡ bytes_counted look packets numbers + size_counted look packets (packet_at packets last)
  bytes_more [] last = omega arith
  bytes_more (first ∷ numbers) last = omega (arith, bytes_more numbers last)

  last_more : (numbers : List ℕ) (last : ℕ) → last_counted look packets (numbers ++ last ∷ [])
      ≡ later_of (last_counted look packets numbers) (sent_counted look packets (packet_at packets last))
  last_more [] last = later_none _
  last_more (first ∷ numbers) last =
      ap (later_of (sent_counted look packets (packet_at packets first))) (last_more numbers last)
      ∙ sym (later_joins (sent_counted look packets (packet_at packets first)) _ _)

-- ---- times

pub earlier_is : (time : Option ℕ) (due : ℕ) → (t : ℕ) × (earlier_of time (Some due) ≡ Some t) × (t ≤ due)
    × ((s : ℕ) → time ≡ Some s → t ≤ s)
earlier_is None due = (due, refl, omega arith, λ s none. absurd (none-some s none))
earlier_is (Some s) due = (min s due, refl, omega arith, λ other is. omega (arith, same_Some s other is))

pub earlier_from : (time : Option ℕ) (due least : ℕ) → earlier_of time (Some due) ≡ Some least
    → (least ≡ due) ⊎ (time ≡ Some least)
earlier_from None due least is = inl (sym (same_Some due least is))
earlier_from (Some s) due least is = elim (leb_tells s due) [
  | inl small ↦ inr (ap (λ t. Some t) (omega (arith, same_Some (min s due) least is, small.1)))
  | inr large ↦ inl (omega (arith, same_Some (min s due) least is, large.1))
]

-- a packet is due at exactly one time
due_once : (look : LossPass) (number sent one other : ℕ) → IsDueAt look number sent one → IsDueAt look number sent other
    → one ≡ other
due_once look number sent one other (inl first) (inl second) = first.1 ∙ sym second.1
due_once look number sent one other (inl first) (inr second) = absurd (first.0 second.0)
due_once look number sent one other (inr first) (inl second) = absurd (second.0 first.0)
due_once look number sent one other (inr first) (inr second) = first.1 ∙ sym second.1

-- ---- what is counted

counts_by : (test : Bool) (sent size before : ℕ) (tally : Tally) (run other : Run)
    → tally.bytes ≡ min before (2 ^ 64 - 1)
    → (let new : Tally = if test then record tally {
      last_sent = later_of tally.last_sent (Some sent);
      bytes = min (tally.bytes + size) (2 ^ 64 - 1);
      run = run;
    } else record tally { run = other } in
    (new.loss_time ≡ tally.loss_time) × (new.probe ≡ tally.probe)
    × (new.bytes ≡ min (before + (if test then size else 0)) (2 ^ 64 - 1))
    × (new.last_sent ≡ later_of tally.last_sent (if test then Some sent else None)))
counts_by true sent size before tally run other bytes = (refl, refl, omega (arith, bytes), refl)
counts_by false sent size before tally run other bytes =
    (refl, refl, omega (arith, bytes), sym (later_none tally.last_sent))

-- ---- below the first packet, and below the next

module _ {P M : Type 0} (look : LossPass) (old : Packets P M) where
  pub looked_first : PassSoFar look old 0 [] nothing_found old
  looked_first = record {
    lost = record { rising = omega arith; lost = λ number none. absurd none };
    taken = refl;
    probe = λ number none. absurd (none-some number none);
    earliest = record {
      one = λ least none. absurd (none-some least none);
      least = λ number packet due below none. absurd (omega (arith, none));
    };
    bytes = refl;
    last_sent = refl;
    run = run_first _ _ look.skipped look.period 0 none_told (λ number sent ends. absurd ends.told);
  }
    where
      none_told : (number : ℕ) → IsDeclaredLost [] None number → ⊥
      none_told number (inl never) = never
      none_told number (inr none) = none-some number none

  module _ (from : ℕ) (numbers : List ℕ) (tally : Tally) (now : Packets P M)
      (looked : PassSoFar look old from numbers tally now) where
    -- from there on all is as it was
    still : (number : ℕ) → from ≤ number → packet_at now number ≡ packet_at old number
    still number above = ap (λ (packets : Packets P M). packet_at packets number) looked.taken
        ∙ all_other old numbers number
        (λ there. absurd (omega (arith, above, rising_below 0 from numbers number looked.lost.rising there)))

    pub looked_end : (end : ℕ) → from ≤ end → NoneFrom look now from → PassSoFar look old end numbers tally now
    looked_end end above none = record {
      lost = record {
        rising = rising_wider 0 from end numbers looked.lost.rising above;
        lost = looked.lost.lost;
      };
      taken = looked.taken;
      probe = λ number is. (let was = looked.probe number is in (was.0, omega (arith, was.1, above), was.2));
      earliest = record {
        one = λ least is. (let was = looked.earliest.one least is in
            (was.0, was.1, was.2, omega (arith, was.3, above), was.4, was.5));
        least = λ number packet due below small untold is_due. elim (leb_tells from number) [
          | inl on ↦ absurd (none number packet (still number on.1 ∙ below.0, below.1) on.1)
          | inr under ↦ looked.earliest.least number packet due below under.1 untold is_due
        ];
      };
      bytes = looked.bytes;
      last_sent = looked.last_sent;
      run = run_like _ _ look.skipped look.period from end tally.run above looked.run;
    }

    -- ---- the next packet

    module _ (next : Candidate) (is : IsNextLossCandidate look now from next) where
      here : IsBelow look old next.number is.packet
      here = (sym (still next.number is.from_on) ∙ is.below.0, is.below.1)

      -- below the next number are those below this one, and the packet itself
      or_next : (number : ℕ) (packet : Packet P M) → IsBelow look old number packet → number < next.number + 1
          → (number < from) ⊎ (number ≡ next.number)
      or_next number packet below small = elim (leb_tells from number) [
        | inl on ↦ (
            let first = is.first number packet (still number on.1 ∙ below.0) on.1 in
            inr (omega (arith, small, first))
            )
        | inr under ↦ inl under.1
      ]

      untold_next : IsDeclaredLost numbers tally.probe next.number → ⊥
      untold_next (inl there) =
          absurd (omega (arith, is.from_on, rising_below 0 from numbers next.number looked.lost.rising there))
      untold_next (inr probe) = absurd (omega (arith, is.from_on, (looked.probe next.number probe).1))

      wider : AreIncreasing 0 numbers (next.number + 1)
      wider = rising_wider 0 from (next.number + 1) numbers looked.lost.rising (omega (arith, is.from_on))

      lost_wider : AreLost look old (next.number + 1) numbers
      lost_wider = record { rising = wider; lost = looked.lost.lost }

      probe_wider : ForSome tally.probe (λ number. (look.probe ≡ Some number) × (number < next.number + 1)
          × IsLostBelow look old number)
      probe_wider number told = let was = looked.probe number told in
          (was.0, omega (arith, was.1, is.from_on), was.2)

      -- it is not lost yet
      pub looked_waiting : (due : ℕ) → IsDueAt look next.number next.time_sent due
          → PassSoFar look old (next.number + 1) numbers (waiting due tally) now
      looked_waiting due is_due = record {
        lost = lost_wider;
        taken = looked.taken;
        probe = probe_wider;
        earliest = record { one = one; least = least };
        bytes = looked.bytes;
        last_sent = looked.last_sent;
        run = run_like _ _ look.skipped look.period from (next.number + 1) tally.run (omega (arith, is.from_on))
            looked.run;
      }
        where
          due_here : IsDueAt look next.number is.packet.time_sent due
          due_here = rw (← is.is.time_sent) is_due

          one : ForSome (earlier_of tally.loss_time (Some due)) (λ least. (number : ℕ) × (packet : Packet P M)
              × IsBelow look old number packet × (number < next.number + 1) ×
              (IsDeclaredLost numbers tally.probe number → ⊥)
              × IsDueAt look number packet.time_sent least)
          one least told = elim (earlier_from tally.loss_time due least told) [
            | inl now_due ↦ (next.number, is.packet, here, omega arith, untold_next, rw now_due due_here)
            | inr before ↦ (
                let was = looked.earliest.one least before in
                (was.0, was.1, was.2, omega (arith, was.3, is.from_on), was.4, was.5)
                )
          ]

          least : (number : ℕ) (packet : Packet P M) (at : ℕ) → IsBelow look old number packet
              → number < next.number + 1 → (IsDeclaredLost numbers tally.probe number → ⊥)
              → IsDueAt look number packet.time_sent at
              → (t : ℕ) × (earlier_of tally.loss_time (Some due) ≡ Some t) × (t ≤ at)
          least number packet at below small untold is_at =
              let earlier = earlier_is tally.loss_time due in elim (or_next number packet below small) [
                | inl under ↦ (
                    let was = looked.earliest.least number packet at below under untold is_at in
                    (earlier.0, earlier.1, omega (arith, earlier.3 was.0 was.1, was.2))
                    )
                | inr same ↦ (
                    let sent : packet.time_sent ≡ is.packet.time_sent =
                    ap (λ (p : Packet P M). p.time_sent) (same_Some packet is.packet
                    (sym below.0 ∙ ap (λ n. packet_at old n) same ∙ here.0)) in
                    let one_due = due_once look next.number is.packet.time_sent at due
                    (rw (← same, ← sent) is_at) due_here in
                    (earlier.0, earlier.1, omega (arith, earlier.2, one_due))
                    )
              ]

      lost_here : IsLost look next.number next.time_sent → IsLostBelow look old next.number
      lost_here lost = (is.packet, here, rw (← is.is.time_sent) lost)

      -- if the packet itself is declared lost, those that are not lie below
      module _ (IsToldNow : ℕ → Type 0) (told_here : IsToldNow next.number)
          (told_still : (number : ℕ) → IsDeclaredLost numbers tally.probe number → IsToldNow number)
          (told_before : (number : ℕ) → number < from → IsToldNow number → IsDeclaredLost numbers tally.probe number)
        where
          earliest_still : IsEarliest look old (next.number + 1) IsToldNow tally.loss_time
          earliest_still = record {
            one = λ least told. (let was = looked.earliest.one least told in (
              was.0,
              was.1,
              was.2,
              omega (arith, was.3, is.from_on),
              (λ now. was.4 (told_before was.0 was.3 now)),
              was.5,
            ));
            least = λ number packet due below small untold is_due.
                elim (or_next number packet below small) [
                  | inl under ↦ looked.earliest.least number packet due below under
                      (λ told. untold (told_still number told)) is_due
                  | inr same ↦ absurd (untold (rw same told_here))
                ];
          }

      -- it is the MTU probe
      pub looked_probe : IsLost look next.number next.time_sent → look.probe ≡ Some next.number
          → PassSoFar look old (next.number + 1) numbers (finding_probe look next tally) now
      looked_probe lost probe = record {
        lost = lost_wider;
        taken = looked.taken;
        probe = λ number told. (let same : next.number ≡ number = same_Some next.number number (sym probe ∙ told) in
            (told, omega (arith, same), rw (← same) (lost_here lost)));
        earliest = earliest_still (IsDeclaredLost numbers look.probe) (inr probe) told_still told_before;
        bytes = looked.bytes;
        last_sent = looked.last_sent;
        run = run_on (IsDeclaredLost numbers tally.probe) (IsDeclaredLost numbers look.probe) (IsEndAt look old numbers)
            (IsEndAt look old numbers) look from next.number tally.run looked.run is.from_on (inr probe)
            told_still was_told (λ other sent ends. ends) (λ other sent ends. ends);
      }
        where
          was_told : (number : ℕ) → IsDeclaredLost numbers look.probe number → IsDeclaredLost numbers tally.probe number
              ⊎ (next.number ≡ number)
          was_told number (inl there) = inl (inl there)
          was_told number (inr told) = inr (same_Some next.number number (sym probe ∙ told))

          told_still : (number : ℕ) → IsDeclaredLost numbers tally.probe number
              → IsDeclaredLost numbers look.probe number
          told_still number (inl there) = inl there
          told_still number (inr told) = inr (looked.probe number told).0

          told_before : (number : ℕ) → number < from → IsDeclaredLost numbers look.probe number
              → IsDeclaredLost numbers tally.probe number
          told_before number small (inl there) = inl there
          told_before number small (inr told) =
              absurd (omega (arith, small, is.from_on, same_Some next.number number (sym probe ∙ told)))

      -- it is declared lost
      pub looked_lost : IsLost look next.number next.time_sent → look.probe ≢ Some next.number
          → PassSoFar look old (next.number + 1) (numbers ++ next.number ∷ []) (counting look next tally)
          (without now next.number)
      looked_lost lost other = record {
        lost = record {
          rising = rising_more 0 from next.number numbers looked.lost.rising is.from_on;
          lost = λ number there. elim (one_more numbers next.number number there) [
            | inl before ↦ looked.lost.lost number before
            | inr same ↦ rw (← same) (lost_here lost, other)
          ];
        };
        taken = ap (λ (packets : Packets P M). without packets next.number) looked.taken
            ∙ sym (without_more old numbers next.number);
        probe = rw counted.1 probe_wider;
        earliest = rw (counted.0, counted.1) (earliest_still (IsDeclaredLost (numbers ++ next.number ∷ []) tally.probe)
            (inl (last_among numbers next.number)) told_still told_before);
        bytes = counted.2 ∙ ap (λ sum. min sum (2 ^ 64 - 1)) (sym (bytes_more look old numbers next.number
            ∙ ap (λ there. bytes_counted look old numbers + size_counted look old there) here.0));
        last_sent = counted.3 ∙ ap (λ sent. later_of sent counted_sent) looked.last_sent
            ∙ sym (last_more look old numbers next.number
            ∙ ap (λ there. later_of (last_counted look old numbers) (sent_counted look old there)) here.0);
        run = subst (λ probe. IsLossRun (IsDeclaredLost (numbers ++ next.number ∷ []) probe)
            (IsEndAt look old (numbers ++ next.number ∷ [])) look.skipped look.period (next.number + 1)
            (counting look next tally).run) (sym counted.1) (run_lost (is_counted look next.size next.path_generation)
            (is_end look next.number next.time_sent next.ack_eliciting) refl refl);
      }
        where
          end_more : (number sent : ℕ) → IsEndAt look old numbers number sent
              → IsEndAt look old (numbers ++ next.number ∷ []) number sent
          end_more number sent ends = record {
            told = among_more numbers next.number number ends.told;
            packet = ends.packet;
            is = ends.is;
            counts = ends.counts;
            ends = ends.ends;
            sent_then = ends.sent_then;
          }

          this_end : (number sent : ℕ) → IsEndAt look old (numbers ++ next.number ∷ []) number sent
              → next.number ≡ number → (next.number ≡ number) × (next.time_sent ≡ sent)
              × (is_counted look next.size next.path_generation ≡ true)
              × (is_end look next.number next.time_sent next.ack_eliciting ≡ true)
          this_end number sent ends same =
              let one : ends.packet ≡ is.packet = same_Some ends.packet is.packet
              (sym ends.is ∙ ap (λ n. packet_at old n) (sym same) ∙ here.0) in (
                same,
                is.is.time_sent ∙ sym (ap (λ (p : Packet P M). p.time_sent) one) ∙ ends.sent_then,
                rw (is.is.size, is.is.path_generation, ← one) ends.counts,
                rw (is.is.ack_eliciting, is.is.time_sent, ← one, same) ends.ends,
              )

          end_less : (number sent : ℕ) → IsEndAt look old (numbers ++ next.number ∷ []) number sent
              → IsEndAt look old numbers number sent ⊎ ((next.number ≡ number) × (next.time_sent ≡ sent)
              × (is_counted look next.size next.path_generation ≡ true)
              × (is_end look next.number next.time_sent next.ack_eliciting ≡ true))
          end_less number sent ends = elim (one_more numbers next.number number ends.told) [
            | inl before ↦ inl (record {
              told = before;
              packet = ends.packet;
              is = ends.is;
              counts = ends.counts;
              ends = ends.ends;
              sent_then = ends.sent_then;
            })
            | inr same ↦ inr (this_end number sent ends same)
          ]

          was_told : (number : ℕ) → IsDeclaredLost (numbers ++ next.number ∷ []) tally.probe number
              → IsDeclaredLost numbers tally.probe number ⊎ (next.number ≡ number)
          was_told number (inl there) = elim (one_more numbers next.number number there) [
            | inl before ↦ inl (inl before)
            | inr same ↦ inr same
          ]
          was_told number (inr told) = inl (inr told)

          end_under : (number sent : ℕ) → IsEndAt look old numbers number sent → number < next.number
          end_under number sent ends =
              omega (arith, is.from_on, rising_below 0 from numbers number looked.lost.rising ends.told)

          told_still : (number : ℕ) → IsDeclaredLost numbers tally.probe number
              → IsDeclaredLost (numbers ++ next.number ∷ []) tally.probe number
          told_still number (inl there) = inl (among_more numbers next.number number there)
          told_still number (inr told) = inr told

          run_before : IsLossRun (IsDeclaredLost (numbers ++ next.number ∷ []) tally.probe)
              (IsEndAt look old numbers) look.skipped look.period
              (next.number + 1) (going_on look next.number tally.run)
          run_before = run_on (IsDeclaredLost numbers tally.probe)
              (IsDeclaredLost (numbers ++ next.number ∷ []) tally.probe)
              (IsEndAt look old numbers) (IsEndAt look old numbers) look from next.number tally.run looked.run
              is.from_on (inl (last_among numbers next.number)) told_still was_told (λ other sent ends. ends)
              (λ other sent ends. ends)

          run_no_end : ((number sent : ℕ) → IsEndAt look old (numbers ++ next.number ∷ []) number sent
              → IsEndAt look old numbers number sent)
              → IsLossRun (IsDeclaredLost (numbers ++ next.number ∷ []) tally.probe)
              (IsEndAt look old (numbers ++ next.number ∷ [])) look.skipped look.period (next.number + 1)
              (going_on look next.number tally.run)
          run_no_end less = run_on (IsDeclaredLost numbers tally.probe)
              (IsDeclaredLost (numbers ++ next.number ∷ []) tally.probe)
              (IsEndAt look old numbers) (IsEndAt look old (numbers ++ next.number ∷ [])) look from next.number
              tally.run looked.run is.from_on (inl (last_among numbers next.number)) told_still was_told end_more less

          run_lost : (counts ends : Bool) → is_counted look next.size next.path_generation ≡ counts
              → is_end look next.number next.time_sent next.ack_eliciting ≡ ends
              → IsLossRun (IsDeclaredLost (numbers ++ next.number ∷ []) tally.probe)
              (IsEndAt look old (numbers ++ next.number ∷ [])) look.skipped look.period (next.number + 1)
              (counting look next tally).run
          run_lost false ends none_counts is_ends = rw none_counts (run_no_end (λ number sent found.
              elim (end_less number sent found) [
                | inl before ↦ before
                | inr this ↦ absurd (true≢false (sym this.2 ∙ none_counts))
              ]))
          run_lost true false is_counts none_ends = rw (is_counts, none_ends) (run_no_end (λ number sent found.
              elim (end_less number sent found) [
                | inl before ↦ before
                | inr this ↦ absurd (true≢false (sym this.3 ∙ none_ends))
              ]))
          run_lost true true is_counts is_ends = rw (is_counts, is_ends) (run_end
              (IsDeclaredLost (numbers ++ next.number ∷ []) tally.probe) (IsEndAt look old numbers)
              (IsEndAt look old (numbers ++ next.number ∷ [])) look (next.number + 1) next.number next.time_sent
              (going_on look next.number tally.run) run_before refl end_under (record {
                told = last_among numbers next.number;
                packet = is.packet;
                is = here.0;
                counts = rw (← is.is.size, ← is.is.path_generation) is_counts;
                ends = rw (← is.is.ack_eliciting, ← is.is.time_sent) is_ends;
                sent_then = sym is.is.time_sent;
              }) end_more (λ number sent found. elim (end_less number sent found) [
                | inl before ↦ inl before
                | inr this ↦ inr (this.0, this.1)
              ]))

          counted_sent : Option ℕ
          counted_sent = sent_counted look old (Some is.packet)

          counted : ((counting look next tally).loss_time ≡ tally.loss_time)
              × ((counting look next tally).probe ≡ tally.probe)
              × ((counting look next tally).bytes
              ≡ min (bytes_counted look old numbers + size_counted look old (Some is.packet)) (2 ^ 64 - 1))
              × ((counting look next tally).last_sent
              ≡ later_of tally.last_sent (sent_counted look old (Some is.packet)))
          counted = rw (← is.is.size, ← is.is.path_generation, ← is.is.time_sent)
              (counts_by (is_counted look next.size next.path_generation) next.time_sent next.size
              (bytes_counted look old numbers) tally _ _ looked.bytes)

          told_before : (number : ℕ) → number < from → IsDeclaredLost (numbers ++ next.number ∷ []) tally.probe number
              → IsDeclaredLost numbers tally.probe number
          told_before number small (inl there) = elim (one_more numbers next.number number there) [
            | inl before ↦ inl before
            | inr same ↦ absurd (omega (arith, small, is.from_on, same))
          ]
          told_before number small (inr told) = inr told

-- ---- the MTU probe is declared lost last, unless allocation fails

module _ {P M : Type 0} (look : LossPass) (old : Packets P M) (end : ℕ) (numbers : List ℕ) (tally : Tally)
    (now : Packets P M) (looked : PassSoFar look old end numbers tally now) where
  pub not_told : (number : ℕ) → tally.probe ≡ Some number → IsOneOf number numbers → ⊥
  not_told number probe there = (looked.lost.lost number there).1 (looked.probe number probe).0

  -- it is still tracked
  pub probe_tracked : (number : ℕ) → tally.probe ≡ Some number → packet_at now number ≢ None
  probe_tracked number probe none =
      let was = looked.probe number probe in
      none-some was.2.0 (sym none ∙ ap (λ (packets : Packets P M). packet_at packets number) looked.taken
      ∙ all_other old numbers number (not_told number probe) ∙ was.2.1.0)

  pub probe_waits : (probe : ℕ) → tally.probe ≡ Some probe
      → IsEarliest look old end (IsDeclaredLost numbers None) (earlier_of tally.loss_time (Some look.at))
  probe_waits probe is = record { one = one; least = least }
    where
      was : (look.probe ≡ Some probe) × (probe < end) × IsLostBelow look old probe
      was = looked.probe probe is

      untold : IsDeclaredLost numbers None probe → ⊥
      untold (inl there) = not_told probe is there
      untold (inr none) = none-some probe none

      still_untold : (number : ℕ) → (IsDeclaredLost numbers tally.probe number → ⊥)
          → IsDeclaredLost numbers None number → ⊥
      still_untold number other (inl there) = other (inl there)
      still_untold number other (inr none) = none-some number none

      due_now : IsDueAt look probe was.2.0.time_sent look.at
      due_now = inr (was.2.2, refl)

      one : ForSome (earlier_of tally.loss_time (Some look.at)) (λ least. (number : ℕ) × (packet : Packet P M)
          × IsBelow look old number packet × (number < end) × (IsDeclaredLost numbers None number → ⊥)
          × IsDueAt look number packet.time_sent least)
      one least told = elim (earlier_from tally.loss_time look.at least told) [
        | inl now_due ↦ (probe, was.2.0, was.2.1, was.1, untold, rw now_due due_now)
        | inr before ↦ (
            let found = looked.earliest.one least before in
            (found.0, found.1, found.2, found.3, still_untold found.0 found.4, found.5)
            )
      ]

      least : (number : ℕ) (packet : Packet P M) (at : ℕ) → IsBelow look old number packet → number < end
          → (IsDeclaredLost numbers None number → ⊥) → IsDueAt look number packet.time_sent at
          → (t : ℕ) × (earlier_of tally.loss_time (Some look.at) ≡ Some t) × (t ≤ at)
      least number packet at below small other is_at =
          let earlier = earlier_is tally.loss_time look.at in elim (eqb_tells number probe) [
            | inl same ↦ (
                let sent : packet.time_sent ≡ was.2.0.time_sent = ap (λ (p : Packet P M). p.time_sent)
                (same_Some packet was.2.0 (sym below.0 ∙ ap (λ n. packet_at old n) same.1 ∙ was.2.1.0)) in
                let one_due = due_once look probe was.2.0.time_sent at look.at
                (subst (λ n. IsDueAt look n was.2.0.time_sent at) same.1
                (subst (λ t. IsDueAt look number t at) sent is_at)) due_now in
                (earlier.0, earlier.1, omega (arith, earlier.2, one_due))
                )
            | inr apart ↦ (
                let found = looked.earliest.least number packet at below small (λ told. elim told [
                  | inl there ↦ other (inl there)
                  | inr probed ↦ apart.1 (same_Some number probe (sym probed ∙ is))
                ]) is_at in
                (earlier.0, earlier.1, omega (arith, earlier.3 found.0 found.1, found.2))
                )
          ]
