-- The ranges that are to be acknowledged are those of a sound frame, and its numbers were received.
use Rattle.std.proofs.Common.{◌≡◌, ℕ, ◌+◌, ◌-◌, ◌<◌, ◌≤◌, ◌⊎◌, zero, suc, inl, inr, ◌&&◌, nat_le, Bool, true, false, true≢false, List, [], ◌∷◌, ◌++◌, length, get_or, Option, None, Some, drop, refl, sym, ap, subst, ◌∙◌, arith}
use Rattle.std.proofs.lemmas.Bool.Decides.{nat_tests}
use Rattle.std.specs.declared.ops.Range.{Range}
use Rattle.recovery_base.specs.declared.below.SpaceId.{SpaceId}
use Rattle.recovery_base.specs.Ranges.{AreApart, InRanges}
use Rattle.recovery_acks.specs.Acks.{delay_at, IsPending}
use Rattle.recovery_spaces.specs.Spaces.{Space, acks_of, space_of}
use Rattle.std.proofs.lemmas.List.{drop_more, length-append}
use Rattle.recovery_losses.specs.Frames.{are_apart, is_apart, IsInAckRanges}
use Rattle.recovery_losses.proofs.FrameLaws.{ranges_are}
use Rattle.recovery_sender.specs.Senders.{state_in}
use Rattle.recovery_sender.specs.declared.sender.Sender.{Sender}
use Rattle.recovery_pair.specs.Frames.{IsFrameFor, IsSoundFrame}
use Rattle.recovery_history.specs.History.{Beginning, History}
use Rattle.recovery_history.specs.Promises.Acknowledged.{WasDropped, WasReceived}
use Rattle.recovery_history.specs.Reachability.{ReachedBy}
use Rattle.recovery_history.specs.RecoveryState.{RecoveryState}
use Rattle.recovery_history.proofs.AcknowledgedLaws.{keeps_to_acknowledge}

-- ---- the numbers to be acknowledged were received

pub pending_received : {F K Q S M P : Type 0} (beginning : Beginning F K Q S M P) (past : History Q S M P)
    (recovery : RecoveryState K P M) → ReachedBy beginning past recovery → (space : SpaceId) (n : ℕ)
    → IsPending (acks_of (space_of space recovery.spaces)) n → WasReceived space n past
pending_received beginning past recovery came space n pending =
    ((keeps_to_acknowledge beginning past came.replies space n).0
    (((came.state_after.spaces space).acks.pending n).0 pending)).0

-- and those that were received and not dropped are to be acknowledged
pub received_pending : {F K Q S M P : Type 0} (beginning : Beginning F K Q S M P) (past : History Q S M P)
    (recovery : RecoveryState K P M) → ReachedBy beginning past recovery → (space : SpaceId) (n : ℕ)
    → WasReceived space n past → ¬ WasDropped space n past → IsPending (acks_of (space_of space recovery.spaces)) n
received_pending beginning past recovery came space n was kept =
    ((came.state_after.spaces space).acks.pending n).1
    ((keeps_to_acknowledge beginning past came.replies space n).1 (was, kept))

-- ---- a range after the others

abbrev lowest : Option ℕ → List (ℕ × ℕ) → Option ℕ
lowest above [] = above
lowest above (range ∷ ranges) = lowest (Some range.0) ranges

lowest_last : (above : Option ℕ) (ranges : List (ℕ × ℕ)) (range : ℕ × ℕ)
    → lowest above (ranges ++ range ∷ []) ≡ Some range.0
lowest_last above [] range = refl
lowest_last above (first ∷ ranges) range = lowest_last (Some first.0) ranges range

and_both : (one other last : Bool) → one ≡ true → other ≡ true → last ≡ true → (one && other && last) ≡ true
and_both true other last is so fine = rw (so, fine) refl
and_both false other last is so fine = absurd (true≢false (sym is))

first_of_two : (one other : Bool) → (one && other) ≡ true → (one ≡ true) × (other ≡ true)
first_of_two true other is = (refl, is)
first_of_two false other is = absurd (true≢false (sym is))

apart_last : (above : Option ℕ) (ranges : List (ℕ × ℕ)) (range : ℕ × ℕ) → are_apart above ranges ≡ true
    → nat_le range.0 range.1 ≡ true → is_apart range.1 (lowest above ranges) ≡ true
    → are_apart above (ranges ++ range ∷ []) ≡ true
apart_last above [] range fine whole apart = and_both (nat_le range.0 range.1) (is_apart range.1 above) true whole
    apart refl
apart_last above (first ∷ ranges) range fine whole apart =
    let two = first_of_two (nat_le first.0 first.1 && is_apart first.1 above) (are_apart (Some first.0) ranges) fine in
    let one = first_of_two (nat_le first.0 first.1) (is_apart first.1 above) two.0 in
    and_both (nat_le first.0 first.1) (is_apart first.1 above) (are_apart (Some first.0) (ranges ++ range ∷ [])) one.0
    one.1 (apart_last (Some first.0) ranges range two.1 whole apart)

-- ---- the frame of a set of ranges

abbrev pub frame_of : List (Range ℕ) → List (ℕ × ℕ)
frame_of [] = []
frame_of (range ∷ ranges) = frame_of ranges ++ (range.start, range.end - 1) ∷ []

in_either : (n : ℕ) (one other : List (ℕ × ℕ)) → IsInAckRanges n (one ++ other)
    → IsInAckRanges n one ⊎ IsInAckRanges n other
in_either n [] other is = inr is
in_either n (range ∷ one) other (inl here) = inl (inl here)
in_either n (range ∷ one) other (inr there) = elim (in_either n one other there) [
  | inl first ↦ inl (inr first)
  | inr second ↦ inr second
]

frame_in : (low n : ℕ) (ranges : List (Range ℕ)) → AreApart low ranges → IsInAckRanges n (frame_of ranges)
    → InRanges ranges n
unfolding AreApart InRanges
frame_in low n [] apart is = absurd is
frame_in low n (range ∷ ranges) apart is =
    elim (in_either n (frame_of ranges) ((range.start, range.end - 1) ∷ []) is) [
      | inl others ↦ inr (frame_in (range.end + 1) n ranges apart.2 others)
      | inr here ↦ inl (last here)
    ]
  where
    last : IsInAckRanges n ((range.start, range.end - 1) ∷ []) → (range.start ≤ n) × (n < range.end)
    last (inl bounds) = (bounds.0, omega (arith, bounds.1, apart.1))
    last (inr never) = absurd never

in_first : (n : ℕ) (one other : List (ℕ × ℕ)) → IsInAckRanges n one → IsInAckRanges n (one ++ other)
in_first n [] other is = absurd is
in_first n (range ∷ one) other (inl here) = inl here
in_first n (range ∷ one) other (inr there) = inr (in_first n one other there)

in_second : (n : ℕ) (one other : List (ℕ × ℕ)) → IsInAckRanges n other → IsInAckRanges n (one ++ other)
in_second n [] other is = is
in_second n (range ∷ one) other is = inr (in_second n one other is)

pub frame_whole : (n : ℕ) (ranges : List (Range ℕ)) → InRanges ranges n → IsInAckRanges n (frame_of ranges)
unfolding InRanges
frame_whole n [] is = absurd is
frame_whole n (range ∷ ranges) (inl here) =
    let low = here.0 in
    let high = here.1 in
    in_second n (frame_of ranges) ((range.start, range.end - 1) ∷ []) (inl (low, omega (arith, high)))
frame_whole n (range ∷ ranges) (inr there) =
    in_first n (frame_of ranges) ((range.start, range.end - 1) ∷ []) (frame_whole n ranges there)

next_apart : (low : ℕ) (range : Range ℕ) (ranges : List (Range ℕ)) → AreApart low (range ∷ ranges)
    → is_apart (range.end - 1) (lowest None (frame_of ranges)) ≡ true
unfolding AreApart
next_apart low range [] apart = refl
next_apart low range (next ∷ ranges) apart =
    rw (lowest_last None (frame_of ranges) (next.start, next.end - 1)) (grind (arith, nat_tests, apart))

frame_apart : (low : ℕ) (ranges : List (Range ℕ)) → AreApart low ranges → are_apart None (frame_of ranges) ≡ true
unfolding AreApart
frame_apart low [] apart = refl
frame_apart low (range ∷ ranges) apart =
    apart_last None (frame_of ranges) (range.start, range.end - 1) (frame_apart (range.end + 1) ranges apart.2)
    (grind (arith, nat_tests, apart)) (next_apart low range ranges apart)

pub frame_sound : (ranges : List (Range ℕ)) → AreApart 0 ranges → IsSoundFrame (frame_of ranges)
frame_sound [] apart = inl refl
frame_sound (range ∷ ranges) apart =
    inr (ranges_are (frame_of ranges ++ (range.start, range.end - 1) ∷ [])
    (omega (arith, length-append (frame_of ranges) ((range.start, range.end - 1) ∷ [])))
    ∙ frame_apart 0 (range ∷ ranges) apart)

pub frame_has : (n : ℕ) (ranges : List (Range ℕ)) → AreApart 0 ranges → IsInAckRanges n (frame_of ranges)
    → InRanges ranges n
frame_has n ranges = frame_in 0 n ranges

-- ---- the loop over the ranges, from the last to the first

abbrev no_range : Range ℕ
no_range = record { start = 0; end = 0 }

pub frame_step : (all : List (Range ℕ)) (at : ℕ) (items more : List (ℕ × ℕ)) → 0 < at → at ≤ length all
    → items ≡ frame_of (drop at all)
    → more ≡ items ++ ((get_or all (at - 1) no_range).start, (get_or all (at - 1) no_range).end - 1) ∷ []
    → more ≡ frame_of (drop (at - 1) all)
frame_step all at items more some within is pushed =
    let next : at - 1 + 1 ≡ at = omega (arith, some) in
    let down = drop_more all (at - 1) no_range (omega (arith, some, within)) in
    pushed ∙ ap (λ (l : List (ℕ × ℕ)). l
    ++ ((get_or all (at - 1) no_range).start, (get_or all (at - 1) no_range).end - 1) ∷ [])
    (is ∙ ap (λ (k : ℕ). frame_of (drop k all)) (sym next)) ∙ sym (ap frame_of down)

pub some_end : (low : ℕ) (all : List (Range ℕ)) (at : ℕ) → AreApart low all → at < length all
    → 1 ≤ (get_or all at no_range).end
unfolding AreApart
some_end low [] at apart within = absurd (omega (arith, within))
some_end low (range ∷ all) zero apart within = let whole = apart.1 in omega (arith, whole)
some_end low (range ∷ all) (suc at) apart within = some_end (range.end + 1) all at apart.2 (omega (arith, within))

module _ {F Q R C K S M P : Type 0} {f : _} {c : _} {q : _} {m : _} {r : _} where
  pub frame_for : (space : SpaceId) (now : ℕ) (sender : Sender F Q R C K S M P f c q m r) (all : List (Range ℕ)) (at :
      ℕ)
      (items : List (ℕ × ℕ)) (delay : ℕ) (here : Space P M) → items ≡ frame_of (drop at all) → at ≤ 0 → AreApart 0 all
      → all ≡ (acks_of here).ranges → here ≡ space_of space (state_in sender).spaces
      → delay ≡ delay_at now (acks_of here).counts.largest → IsFrameFor space now sender items delay
  frame_for space now sender all at items delay here is end apart same there waits =
      let none : at ≡ 0 = omega (arith, end) in
      let whole : items ≡ frame_of all = is ∙ ap (λ (k : ℕ). frame_of (drop k all)) none in
      record {
        sound = rw whole (frame_sound all apart);
        each = λ n in_frame. subst (λ (there : Space P M). IsPending (acks_of there) n) there
            (subst (λ (ranges : List (Range ℕ)). InRanges ranges n) same
            (frame_has n all apart (subst (IsInAckRanges n) whole in_frame)));
        whole = λ n pending. subst (IsInAckRanges n) (sym whole)
            (frame_whole n all (subst (λ (ranges : List (Range ℕ)). InRanges ranges n) (sym same)
            (subst (λ (it : Space P M). IsPending (acks_of it) n) (sym there) pending)));
        waited = waits ∙ ap (λ (space : Space P M). delay_at now (acks_of space).counts.largest) there;
      }
