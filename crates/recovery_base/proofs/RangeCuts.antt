-- Ranges that are apart, without the numbers that are removed. `remove` of the set of ranges rests on it.
use Rattle.std.proofs.lemmas.Bool.Decides.{nat_tests}
use Rattle.std.proofs.Common.{◌≡◌, ℕ, suc, ◌+◌, ◌<◌, ◌≤◌, inl, ◌↔◌, [], ◌∷◌, length, take, drop, set, get_or, refl, arith}
use Rattle.std.specs.Prelude.{Bool, true, false, cond, max}
use Rattle.std.specs.declared.ops.Range.{Range}
use Rattle.std.specs.List.{insert}
use Rattle.std.proofs.lemmas.List.{drop_all}
use Rattle.recovery_base.specs.Ranges.{InRanges, AreApart, Removes, IsBetween, floor_above, IsPlace, span, clipped, is_some_range, cut_ranges}
use Rattle.recovery_base.proofs.RangeLaws.{Ranges, Changes, changed, after, drop_at, same_read, apart_lower, from_there, from_place, in_above}

module _ (n start end : ℕ) where
  abbrev Cut : ℕ → ℕ → Ranges → Ranges → Type 0
  Cut more = Changes n (start + 1) more ⊥ (IsBetween start end n) (λ comes. absurd comes)
      (λ between. omega (arith, between))

  cut_one : (low : ℕ) (range : Range ℕ) (others left : Ranges) → start < end → ((range.start < start) → range.end ≤ end)
      → AreApart low (range ∷ others) → Cut 0 (range.end + 1) others left → (some : Bool)
      → is_some_range (clipped start end range) ≡ some
      → Cut 0 low (range ∷ others) (cond some (clipped start end range ∷ left) left)
  unfolding InRanges AreApart
  cut_one _ range _ left _ short apart cut true is =
      grind (
        arith,
        apart_lower (range.end + 1) ((clipped start end range).end + 1)
            left,
      )
  cut_one low range _ left _ short apart cut false is =
      grind (arith, is, cut, apart_lower (range.end + 1) low left)

  cut_all : (low : ℕ) (ranges : Ranges) → start < end → start ≤ low → AreApart low ranges → Cut 0 low ranges
      (cut_ranges start end ranges)
  unfolding AreApart InRanges
  cut_all _ [] _ _ apart = grind arith
  cut_all low (range ∷ others) some above apart =
      cut_one low range others (cut_ranges start end others) some (omega arith) apart
      (cut_all (range.end + 1) others some (omega arith) apart.2)
      (is_some_range (clipped start end range)) refl

-- ---- numbers out of the ranges, by places

module _ {ranges : Ranges} {start end at : ℕ} (apart : AreApart 0 ranges) (some : start < end)
    (place : IsPlace ranges (start + 1) at)
  where
    there : (n : ℕ) → start ≤ n → InRanges ranges n ↔ InRanges (drop at ranges) n
    there n from = from_place (start + 1) n 0 at ranges apart place.below (omega arith)

    none : ((n : ℕ) → IsBetween start end n → ¬ InRanges (drop at ranges) n) → Removes ranges start end false ranges
    none outside = record {
      answer = λ n between lies. outside n between ((there n between.0).0 lies);
      numbers = λ n. (λ lies. (lies, λ between. outside n between ((there n between.0).0 lies)), λ both. both.0);
      apart = apart;
      count = λ _. omega arith;
    }

    pub none_at_end : at ≡ length ranges → Removes ranges start end false ranges
    unfolding InRanges
    none_at_end last = none (λ n between. rw (drop_all at ranges (omega arith)) (λ lies. lies))

    module _ {range : Range ℕ} (differs : ¬ (at ≡ length ranges)) (is : range ≡ get_or ranges at range) where
      rest : drop at ranges ≡ range ∷ after ranges at
      rest = drop_at ranges at range (omega arith) is

      apart_here : AreApart (floor_above 0 (take at ranges)) (range ∷ after ranges at)
      apart_here = rw rest at (from_there 0 at ranges apart).1

      ends_past : start < range.end
      ends_past = let h : start + 1 ≤ range.end = (rw rest at place.above) in omega arith

      pub none_before : end ≤ range.start → Removes ranges start end false ranges
      unfolding InRanges AreApart
      none_before past = none (λ n between. rw rest
          (grind (arith, between, past, apart_here, in_above (range.end + 1) (after ranges at) n)))

      -- numbers are removed, and the change from the position on is known number by number
      taken : (more : ℕ) (edit : ℕ → Ranges → Ranges) → ((at : ℕ) (range : Range ℕ) (others : Ranges)
          → range.start < range.end → range.end < start + 1 → edit (suc at) (range ∷ others) ≡ range ∷ edit at others)
          → range.start < end → (start ≡ 0 → more ≡ 0)
          → ((n : ℕ) → Cut n start end more (floor_above 0 (take at ranges)) (range ∷ after ranges at)
          (edit 0 (range ∷ after ranges at)))
          → Removes ranges start end true (edit at ranges)
      unfolding InRanges AreApart
      taken more edit passes before few change = record {
        answer = (
          max range.start start,
          (there (max range.start start) (omega arith)).1
              (rw rest (inl (omega arith, omega (arith, ends_past, apart_here)))),
          (omega arith, omega arith),
        );
        numbers = λ n. grind (arith, all n);
        apart = (all 0).2;
        count = λ zero. omega (arith, (all 0).3, few zero);
      }
        where
          all : (n : ℕ) → Cut n start end more 0 ranges (edit at ranges)
          all n = changed n (start + 1) more ⊥ (IsBetween start end n) (λ comes. absurd comes)
              (λ between. omega (arith, between)) edit passes 0 at ranges apart place.below place.bound
              (rw rest (change n))

      pub cut_at : {other : Range ℕ} → other ≡ get_or ranges at other → range.start < end
          → ((range.start < start) → other.end ≤ end) → Removes ranges start end true (cut_ranges start end ranges)
      unfolding AreApart
      cut_at also before short = taken 0 (λ i rs. cut_ranges start end rs)
          (λ i first others filled below. grind (arith, nat_tests, filled, below)) before (λ _. refl)
          (λ n. cut_one n start end (floor_above 0 (take at ranges)) range (after ranges at)
          (cut_ranges start end (after ranges at)) some
          (λ lower. rw (same_read ranges at (omega arith) is also) (short lower)) apart_here
          (cut_all n start end (range.end + 1) (after ranges at) some (omega (arith, ends_past)) apart_here.2)
          (is_some_range (clipped start end range)) refl)

      -- a range that has numbers on both sides becomes two
      pub splits : {other : Range ℕ} → other ≡ get_or ranges at other → range.start < start → end < other.end
          → Removes ranges start end true
          (set (insert ranges (at + 1) (span end other.end)) at (span range.start start))
      unfolding InRanges AreApart
      splits {other} also lower upper =
          let as_other = same_read ranges at (omega arith) is also in
          let above = in_above (range.end + 1) (after ranges at) in
          taken 1 (λ i rs. set (insert rs (i + 1) (span end other.end)) i (span range.start start))
          (λ i first others _ _. let e : suc i + 1 ≡ suc (i + 1) = omega arith in rw e refl)
          (rw as_other (grind (arith, lower, upper, as_other, some))) (λ zero. absurd (omega arith))
          (λ n. grind (arith, apart_here, lower, upper, some, as_other, above n))
