-- The ranges of a frame, one after another.
use Rattle.std.proofs.Common.{◌≡◌, ℕ, ◌+◌, ◌<◌, ◌≤◌, zero, suc, true, false, Bool, ◌&&◌, List, [], ◌∷◌, length, drop, get_or, Option, None, Some, IfSome, nat_le, true≢false, leb-true, refl, sym, ap, ◌∙◌, inl, inr, arith}
use Rattle.std.proofs.lemmas.Bool.Decides.{leb_tells}
use Rattle.std.proofs.lemmas.Option.{none-some, same_Some}
use Rattle.std.specs.Option.{is_some}
use Rattle.std.proofs.lemmas.List.{drop_all, drop_more}
use Rattle.recovery_losses.specs.Frames.{are_apart, are_ranges, is_apart, largest_of}

-- the ranges from an index on are apart if all are
pub record AreSeen (ranges : List (ℕ × ℕ)) (at : ℕ) (above : Option ℕ) : Type 0 where
  pub none : at ≡ 0 → above ≡ None
  pub some : 0 < at → is_some above ≡ true
  pub within : at ≤ length ranges
  pub rest : are_apart None ranges ≡ are_apart above (drop at ranges)

pub ranges_are : (ranges : List (ℕ × ℕ)) → 0 < length ranges → are_ranges ranges ≡ are_apart None ranges
ranges_are [] some = absurd (omega (arith, some))
ranges_are (range ∷ ranges) some = refl

no_ranges : (ranges : List (ℕ × ℕ)) → length ranges ≡ 0 → are_ranges ranges ≡ false
no_ranges [] none = refl
no_ranges (range ∷ ranges) none = absurd (omega (arith, none))

module _ (ranges : List (ℕ × ℕ)) (at : ℕ) (above : Option ℕ) (seen : AreSeen ranges at above) where
  pub seen_end : length ranges ≤ at → is_some above ≡ are_ranges ranges
  seen_end end = elim (leb_tells 1 at) [
    | inl some ↦ seen.some some.1 ∙ sym (ranges_are ranges (omega (arith, some.1, seen.within)) ∙ seen.rest
        ∙ ap (are_apart above) (drop_all at ranges end))
    | inr none ↦ (
        let first : at ≡ 0 = omega (arith, none.1) in
        ap (λ there. is_some there) (seen.none first) ∙ sym (no_ranges ranges (omega (arith, end, first)))
        )
  ]

  module _ (within : at < length ranges) where
    here : are_ranges ranges ≡ (nat_le (get_or ranges at (0, 0)).0 (get_or ranges at (0, 0)).1
        && is_apart (get_or ranges at (0, 0)).1 above
        && are_apart (Some (get_or ranges at (0, 0)).0) (drop (at + 1) ranges))
    here = ranges_are ranges (omega (arith, within)) ∙ seen.rest
        ∙ ap (are_apart above) (drop_more ranges at (0, 0) within)

    pub seen_fault : (nat_le (get_or ranges at (0, 0)).0 (get_or ranges at (0, 0)).1
        && is_apart (get_or ranges at (0, 0)).1 above) ≡ false → false ≡ are_ranges ranges
    seen_fault fault = sym (here ∙ ap (λ test. test
        && are_apart (Some (get_or ranges at (0, 0)).0) (drop (at + 1) ranges)) fault)

    pub seen_on : (nat_le (get_or ranges at (0, 0)).0 (get_or ranges at (0, 0)).1
        && is_apart (get_or ranges at (0, 0)).1 above) ≡ true
        → AreSeen ranges (at + 1) (Some (get_or ranges at (0, 0)).0)
    seen_on fine = record {
      none = λ zero. absurd (omega (arith, zero));
      some = λ positive. refl;
      within = omega (arith, within);
      rest = seen.rest ∙ ap (are_apart above) (drop_more ranges at (0, 0) within) ∙ ap (λ test. test
          && are_apart (Some (get_or ranges at (0, 0)).0) (drop (at + 1) ranges)) fine;
    }

-- ---- whole ranges that are apart

both : (one other : Bool) → (one && other) ≡ true → (one ≡ true) × (other ≡ true)
both true other fine = (refl, fine)
both false other never = absurd (true≢false (sym never))

apart_from : (last : ℕ) (above : Option ℕ) (a : ℕ) → above ≡ Some a → is_apart last above ≡ true → last + 2 ≤ a
apart_from last None a is apart = absurd (none-some a is)
apart_from last (Some other) a is apart = omega (arith, same_Some other a is, leb-true (last + 2) other apart)

pub record AreFine (above : Option ℕ) (ranges : List (ℕ × ℕ)) : Type 0 where
  pub whole : (i : ℕ) → i < length ranges → (get_or ranges i (0, 0)).0 ≤ (get_or ranges i (0, 0)).1
  pub apart : (i j : ℕ) → i < j → j < length ranges → (get_or ranges j (0, 0)).1 + 2 ≤ (get_or ranges i (0, 0)).0
  pub under : (a : ℕ) → above ≡ Some a → (i : ℕ) → i < length ranges → (get_or ranges i (0, 0)).1 + 2 ≤ a

fine_more : (above : Option ℕ) (range : ℕ × ℕ) (ranges : List (ℕ × ℕ)) → range.0 ≤ range.1
    → ((a : ℕ) → above ≡ Some a → range.1 + 2 ≤ a) → AreFine (Some range.0) ranges → AreFine above (range ∷ ranges)
fine_more above range ranges fine under rest = record { whole = whole; apart = apart; under = all_under }
  where
    whole : (i : ℕ) → i < length (range ∷ ranges)
        → (get_or (range ∷ ranges) i (0, 0)).0 ≤ (get_or (range ∷ ranges) i (0, 0)).1
    whole zero within = fine
    whole (suc i) within = rest.whole i (omega (arith, within))

    apart : (i j : ℕ) → i < j → j < length (range ∷ ranges)
        → (get_or (range ∷ ranges) j (0, 0)).1 + 2 ≤ (get_or (range ∷ ranges) i (0, 0)).0
    apart i zero less within = absurd (omega (arith, less))
    apart zero (suc j) less within = rest.under range.0 refl j (omega (arith, within))
    apart (suc i) (suc j) less within = rest.apart i j (omega (arith, less)) (omega (arith, within))

    all_under : (a : ℕ) → above ≡ Some a → (i : ℕ) → i < length (range ∷ ranges)
        → (get_or (range ∷ ranges) i (0, 0)).1 + 2 ≤ a
    all_under a is zero within = under a is
    all_under a is (suc i) within =
        omega (arith, rest.under range.0 refl i (omega (arith, within)), fine, under a is)

pub are_fine : (above : Option ℕ) (ranges : List (ℕ × ℕ)) → are_apart above ranges ≡ true → AreFine above ranges
are_fine above [] fine = record {
  whole = λ i none. absurd (omega (arith, none));
  apart = λ i j less none. absurd (omega (arith, none));
  under = λ a is i none. absurd (omega (arith, none));
}
are_fine above (range ∷ ranges) fine =
    let all = both (nat_le range.0 range.1 && is_apart range.1 above) (are_apart (Some range.0) ranges) fine in
    let one = both (nat_le range.0 range.1) (is_apart range.1 above) all.0 in
    fine_more above range ranges (leb-true range.0 range.1 one.0) (λ a is. apart_from range.1 above a is one.1)
    (are_fine (Some range.0) ranges all.1)

-- if the largest number is small, all are
pub small_all : (ranges : List (ℕ × ℕ)) (limit : ℕ) → AreFine None ranges
    → IfSome (largest_of ranges) (λ largest. largest + 1 < limit) → (i : ℕ) → i < length ranges
    → (get_or ranges i (0, 0)).1 + 1 < limit
small_all [] limit fine small i within = absurd (omega (arith, within))
small_all (range ∷ ranges) limit fine small zero within = small
small_all (range ∷ ranges) limit fine small (suc i) within =
    omega (arith, small, fine.apart zero (suc i) (omega arith) within, fine.whole zero (omega arith))
