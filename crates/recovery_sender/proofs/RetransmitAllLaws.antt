-- The packets of a space are declared lost, in order.
use Rattle.std.proofs.Common.{◌≡◌, ◌≢◌, ℕ, ◌+◌, ◌≤◌, ◌<◌, ◌↔◌, true, false, Bool, not, ◌||◌, List, [], ◌∷◌, ◌++◌, length, filter, Option, None, Some, inl, inr, refl, sym, ap, subst, ◌∙◌, arith, length-append}
use Rattle.std.specs.Prelude.{if◌then◌else◌}
use Rattle.std.proofs.lemmas.Bool.Decides.{leb_tells}
use Rattle.std.proofs.lemmas.Option.{none-some}
use Rattle.recovery_base.specs.declared.below.SpaceId.{SpaceId}
use Rattle.recovery_base.specs.Units.{u64_limit}
use Rattle.recovery_spaces.specs.Packets.{Packet, Packets, packet_at, without, first_from, AreBelow}
use Rattle.recovery_spaces.proofs.PacketLaws.{some_of}
use Rattle.recovery_queue.specs.Slots.{is_from, AreFrom}
use Rattle.recovery_losses.specs.Losses.{AreIncreasing, IsOneOf}
use Rattle.recovery_losses.proofs.DetectionPassLaws.{all_other, among_more, last_among, one_more, rising_more, rising_wider}
use Rattle.recovery_losses.proofs.LossLaws.{found_from, lowest_from, none_from}
use Rattle.recovery_losses.proofs.RoomLaws.{count_between, count_next, count_without}
use Rattle.recovery_history.specs.History.{queue_model}
use Rattle.recovery_sender.specs.declared.sender.Sender.{Sender}
use Rattle.recovery_sender.specs.Attempts.{LossAttempt, declared_in, is_cut_in, tried_in, trying}
use Rattle.recovery_sender.specs.RetransmitAll.{HasNoneFrom, IsLeastFrom, TriesAllTracked}
use Rattle.recovery_sender.specs.Senders.{state_in}
use Rattle.recovery_sender.specs.Spaces.{packets_in}
use Rattle.recovery_sender.specs.Steps.{TakesSteps}
use Rattle.recovery_sender.proofs.AttemptLaws.{cut_more, declared_more, left_after, tried_more, trying_more}
use Rattle.recovery_sender.proofs.LeadLaws.{leads_on}

-- ---- the first packet from a number on

module _ {P M : Type 0} (packets : Packets P M) (from : ℕ) where
  pub none_tracked : first_from from packets ≡ None → HasNoneFrom packets from
  none_tracked none number packet there above = none_from from packets none number packet there above

  pub least_tracked : (number : ℕ) (packet : Packet P M) → first_from from packets ≡ Some (number, packet)
      → AreFrom number (filter (is_from from) packets) → IsLeastFrom packets from number
  least_tracked number packet first all =
      let found = found_from from packets number packet first in
      record {
        tracked = λ none. none-some packet (sym none ∙ found.0);
        from_on = found.1;
        least = λ other there is above. lowest_from from number packets all other there is above;
      }

or_false : (b : Bool) → (b || false) ≡ b
or_false true = refl
or_false false = refl

or_true : (b : Bool) → (b || true) ≡ true
or_true true = refl
or_true false = refl

-- ---- below a number each was tried

module _ {F Q R C K S M P : Type 0} {f : _} {c : _} {q : _} {m : _} {r : _} (space : SpaceId)
    (start : Sender F Q R C K S M P f c q m r) where
  abbrev tracked : Packets P M
  tracked = packets_in (state_in start) space

  abbrev pub left : Sender F Q R C K S M P f c q m r → Packets P M
  left now = packets_in (state_in now) space

  pub record TriesBelow (from : ℕ) (numbers : List ℕ) (is_cut : Bool) (now : Sender F Q R C K S M P f c q m r)
      : Type 0 where
    pub attempts : List LossAttempt
    pub rising : AreIncreasing 0 (tried_in attempts) from
    pub each : (number : ℕ) → IsOneOf number (tried_in attempts)
        ↔ ((number < from) × (packet_at tracked number ≢ None))
    pub same : (number : ℕ) → from ≤ number → packet_at (left now) number ≡ packet_at tracked number
    pub declared : numbers ≡ declared_in attempts
    pub cut : is_cut ≡ is_cut_in attempts
    pub goes : TakesSteps (trying space attempts) start now

  pub tries_none : TriesBelow 0 [] false start
  tries_none = record {
    attempts = [];
    rising = omega arith;
    each = λ number. ((λ never. absurd never), λ within. absurd (omega (arith, within.0)));
    same = λ number above. refl;
    declared = refl;
    cut = refl;
    goes = record { leads = refl; variables = refl };
  }

  module _ (from : ℕ) (numbers : List ℕ) (is_cut : Bool) (now : Sender F Q R C K S M P f c q m r)
      (tries : TriesBelow from numbers is_cut now) where
    pub tries_all : HasNoneFrom (left now) from → from ≤ u64_limit → TriesAllTracked space start numbers is_cut now
    tries_all none small = record {
      attempts = tries.attempts;
      rising = rising_wider 0 from u64_limit (tried_in tries.attempts) tries.rising small;
      each = λ number. ((λ there. ((tries.each number).0 there).1), λ is. back number is);
      declared = tries.declared;
      cut = tries.cut;
      goes = tries.goes;
    }
      where
        back : (number : ℕ) → packet_at tracked number ≢ None → IsOneOf number (tried_in tries.attempts)
        back number is = elim (leb_tells from number) [
          | inl above ↦ (
              let some = some_of (packet_at tracked number) is in
              absurd (none number some.0 (tries.same number above.1 ∙ some.1) above.1)
              )
          | inr below ↦ (tries.each number).1 (below.1, is)
        ]

    module _ (number : ℕ) (is : IsLeastFrom (left now) from number) (refused : Bool)
        (new : Sender F Q R C K S M P f c q m r) (goes : TakesSteps (trying space ((number, refused) ∷ [])) now new)
      where
        pub left_is : left new ≡ (if refused then left now else without (left now) number)
        left_is = left_after space number now is.tracked new refused goes

        was_there : packet_at tracked number ≢ None
        was_there none = is.tracked (tries.same number is.from_on ∙ none)

        pub tries_on : TriesBelow (number + 1) (if refused then numbers else numbers ++ number ∷ [])
            (if refused then true else is_cut) new
        tries_on = record {
          attempts = tries.attempts ++ (number, refused) ∷ [];
          rising = rw (tried_more tries.attempts number refused) (rising_more 0 from number (tried_in tries.attempts)
              tries.rising is.from_on);
          each = λ other. (to other, back other);
          same = same;
          declared = by_declared refused ∙ sym (declared_more tries.attempts number refused);
          cut = by_cut refused ∙ sym (cut_more tries.attempts number refused);
          goes = record {
            leads = rw (trying_more {Q = Q} {S = S} {M = M} {P = P} space tries.attempts ((number, refused) ∷ []))
                (leads_on f.built c.words (queue_model q.contents q.words q.blank) (trying space tries.attempts) _ _ _ _
                tries.goes.leads goes.leads);
            variables = goes.variables ∙ tries.goes.variables;
          };
        }
          where
            by_declared : (refused : Bool) → (if refused then numbers else numbers ++ number ∷ [])
                ≡ (if refused then declared_in tries.attempts else declared_in tries.attempts ++ number ∷ [])
            by_declared true = tries.declared
            by_declared false = ap (λ list. list ++ number ∷ []) tries.declared

            by_cut : (refused : Bool) → (if refused then true else is_cut)
                ≡ (if refused then true else is_cut_in tries.attempts)
            by_cut true = refl
            by_cut false = tries.cut

            to : (other : ℕ) → IsOneOf other (tried_in (tries.attempts ++ (number, refused) ∷ []))
                → (other < number + 1) × (packet_at tracked other ≢ None)
            to other there = elim (one_more (tried_in tries.attempts) number other
                (subst (IsOneOf other) (tried_more tries.attempts number refused) there)) [
                  | inl before ↦ (
                      let was = (tries.each other).0 before in
                      (omega (arith, was.0, is.from_on), was.1)
                      )
                  | inr same ↦ (omega (arith, same), subst (λ n. packet_at tracked n ≢ None) same was_there)
                ]

            back : (other : ℕ) → (other < number + 1) × (packet_at tracked other ≢ None)
                → IsOneOf other (tried_in (tries.attempts ++ (number, refused) ∷ []))
            back other (small, there) = rw (tried_more tries.attempts number refused) (elim (leb_tells from other) [
              | inl above ↦ (
                  let some = some_of (packet_at tracked other) there in
                  let at_least = is.least other some.0 (tries.same other above.1 ∙ some.1) above.1 in
                  subst (λ n. IsOneOf n (tried_in tries.attempts ++ number ∷ [])) (omega (arith, at_least, small))
                  (last_among (tried_in tries.attempts) number)
                  )
              | inr below ↦ among_more (tried_in tries.attempts) number other ((tries.each other).1 (below.1, there))
            ])

            apart : (other : ℕ) → number + 1 ≤ other → IsOneOf other (number ∷ []) → ⊥
            apart other above (inl same) = absurd (omega (arith, above, same))
            apart other above (inr never) = never

            same_by : (refused : Bool) → left new ≡ (if refused then left now else without (left now) number)
                → (other : ℕ) → number + 1 ≤ other → packet_at (left new) other ≡ packet_at (left now) other
            same_by true left_same other above = ap (λ packets. packet_at packets other) left_same
            same_by false left_less other above = ap (λ packets. packet_at packets other) left_less
                ∙ all_other (left now) (number ∷ []) other (apart other above)

            same : (other : ℕ) → number + 1 ≤ other → packet_at (left new) other ≡ packet_at tracked other
            same other above = same_by refused left_is other above
                ∙ tries.same other (omega (arith, above, is.from_on))

        -- there is room for the others, as there was for it and them
        pub room_left : (capacity end : ℕ) → number < end
            → length numbers + count_between from end (left now) ≤ capacity
            → length (if refused then numbers else numbers ++ number ∷ []) + count_between (number + 1) end (left new)
            ≤ capacity
        room_left capacity end small room = by refused left_is
          where
            by : (refused : Bool) → left new ≡ (if refused then left now else without (left now) number)
                → length (if refused then numbers else numbers ++ number ∷ [])
                + count_between (number + 1) end (left new) ≤ capacity
            by true left_same = omega (
              arith,
              room,
              count_next from end number (left now) is.tracked is.from_on small,
              ap (count_between (number + 1) end) left_same,
            )
            by false left_less = omega (
              arith,
              room,
              count_next from end number (left now) is.tracked is.from_on small,
              count_without (number + 1) end number (left now),
              ap (count_between (number + 1) end) left_less,
              length-append {A = ℕ} numbers (number ∷ []),
            )

    -- the next one was tried, with this result
    module _ (number : ℕ) (is : IsLeastFrom (left now) from number) (lost : Bool) (after : List ℕ)
        (new : Sender F Q R C K S M P f c q m r) (is_after : after ≡ (if lost then numbers ++ number ∷ [] else numbers))
        (goes : TakesSteps (trying space ((number, not lost) ∷ [])) now new) where
      pub tries_next : TriesBelow (number + 1) after (is_cut || not lost) new
      tries_next = by lost is_after goes
        where
          by : (lost : Bool) → after ≡ (if lost then numbers ++ number ∷ [] else numbers)
              → TakesSteps (trying space ((number, not lost) ∷ [])) now new
              → TriesBelow (number + 1) after (is_cut || not lost) new
          by true is_after goes = rw (is_after, or_false is_cut) (tries_on number is false new goes)
          by false is_after goes = rw (is_after, or_true is_cut) (tries_on number is true new goes)

      pub room_next : (capacity end : ℕ) → number < end
          → length numbers + count_between from end (left now) ≤ capacity
          → length after + count_between (number + 1) end (left new) ≤ capacity
      room_next capacity end small room = by lost is_after goes
        where
          by : (lost : Bool) → after ≡ (if lost then numbers ++ number ∷ [] else numbers)
              → TakesSteps (trying space ((number, not lost) ∷ [])) now new
              → length after + count_between (number + 1) end (left new) ≤ capacity
          by true is_after goes = rw is_after (room_left number is false new goes capacity end small room)
          by false is_after goes = rw is_after (room_left number is true new goes capacity end small room)

    -- what is tracked there is below an end, if all was at first
    pub below_end : (number : ℕ) → IsLeastFrom (left now) from number → (end : ℕ) → AreBelow tracked end
        → number < end
    below_end number is end small = by (packet_at (left now) number) refl
      where
        by : (found : Option (Packet P M)) → packet_at (left now) number ≡ found → number < end
        by None none = absurd (is.tracked none)
        by (Some packet) there = small number packet (sym (tries.same number is.from_on) ∙ there)

    -- nothing is tracked from an end on
    pub none_beyond : (end : ℕ) → AreBelow tracked end → end ≤ from → HasNoneFrom (left now) from
    none_beyond end small beyond number packet there above =
        absurd (omega (arith, small number packet (sym (tries.same number above) ∙ there), above, beyond))
