-- The highest runs of a set that is stored as ranges. The limit of 64 ranges (`insert_one`, `HeardLaws`) rests on it.
use Rattle.std.proofs.Common.{◌≡◌, ℕ, suc, ◌+◌, ◌-◌, ◌<◌, ◌≤◌, inl, inr, ◌↔◌, List, [], ◌∷◌, ◌++◌, length, Option, None, Some, ap, refl, arith}
use Rattle.std.specs.declared.ops.Range.{Range}
use Rattle.std.proofs.lemmas.Bool.{cases_lt}
use Rattle.std.specs.Prelude.{Bool, IfNone}
use Rattle.std.specs.Option.{option_to_list}
use Rattle.recovery_base.specs.Numbers.{InsertNumber}
use Rattle.recovery_base.specs.Ranges.{InRanges, AreApart, InsertsOne}
use Rattle.recovery_base.proofs.WindowLaws.{iff_trans}
use Rattle.recovery_base.proofs.RangeLaws.{Ranges, in_above, apart_rest}
use Rattle.recovery_acks.specs.Runs.{EndsRun, Ascend, AtMost, IsInHighest}

ascend_as : {P Q : ℕ → Type 0} (low : ℕ) (numbers : List ℕ) → ((n : ℕ) → P n → Q n) → Ascend P low numbers
    → Ascend Q low numbers
unfolding Ascend
ascend_as low [] step up = tt
ascend_as low (n ∷ others) step up = (up.0, step n up.1, ascend_as (n + 1) others step up.2)

-- the end of a run above the first range is one in the others, and conversely
end_behind : (range : Range ℕ) (others : Ranges) (n : ℕ) → range.end ≤ n
    → EndsRun (InRanges (range ∷ others)) n ↔ EndsRun (InRanges others) n
unfolding InRanges
end_behind range others n above = grind (arith, above)

-- there are at most as many ends as ranges
few_ends : {P : ℕ → Type 0} (low from : ℕ) (ranges : Ranges) → AreApart low ranges
    → ((n : ℕ) → from ≤ n → P n → EndsRun (InRanges ranges) n) → (numbers : List ℕ) → Ascend P from numbers
    → length numbers ≤ length ranges
unfolding Ascend InRanges AreApart
few_ends low from ranges apart ends [] up = omega arith
few_ends low from [] apart ends (n ∷ numbers) up = absurd (ends n up.0 up.1).0
few_ends low from (range ∷ others) apart ends (n ∷ numbers) up =
    let last = ends n up.0 up.1 in
    let behind = λ (m : ℕ) (past : range.end ≤ m). (end_behind range others m past).0 in
    elim (cases_lt n range.end) [
      | inl below ↦
          let reached : range.end ≤ n + 1 = grind (arith, last, in_above (range.end + 1) others n apart.2) in
          omega (
            arith,
            few_ends (range.end + 1) (n + 1) others apart.2
                (λ m above p. behind m (omega (arith, reached)) (ends m (omega (arith, up.0)) p)) numbers up.2,
          )
      | inr past ↦ omega (
        arith,
        few_ends (range.end + 1) n others apart.2
            (λ m above p. behind m (omega arith) (ends m (omega (arith, up.0)) p)) (n ∷ numbers)
            (omega arith, up.1, up.2),
      )
    ]

-- and as many
all_ends : {Q : ℕ → Type 0} (low from : ℕ) (ranges : Ranges) → from ≤ low → AreApart low ranges
    → ((n : ℕ) → from ≤ n → EndsRun (InRanges ranges) n → Q n)
    → (numbers : List ℕ) × Ascend Q from numbers × (length numbers ≡ length ranges)
unfolding Ascend AreApart InRanges
all_ends low from [] less apart step = ([], tt, refl)
all_ends low from (range ∷ others) less apart step =
    let last = range.end - 1 in
    let alone = in_above (range.end + 1) others (last + 1) apart.2 in
    let rest = all_ends (range.end + 1) (last + 1) others (omega arith) apart.2
    (λ m above end. step m (omega (arith, apart)) ((end_behind range others m (omega arith)).1 end)) in (
      last ∷ rest.0,
      (omega (arith, apart), step last (omega (arith, apart)) (grind (arith, apart, alone)), rest.1),
      omega (arith, rest.2),
    )

highest_all : (ranges : Ranges) → AreApart 0 ranges → length ranges ≤ 64 → (n : ℕ)
    → InRanges ranges n ↔ IsInHighest 64 (InRanges ranges) n
highest_all ranges apart few n = (
  λ here. (here, λ numbers up. omega (arith, few_ends 0 0 ranges apart (λ m above both. both.1) numbers up)),
  λ both. both.0,
)

highest_rest : (range : Range ℕ) (others : Ranges) → AreApart 0 (range ∷ others) → length others ≡ 64 → (n : ℕ)
    → InRanges others n ↔ IsInHighest 64 (InRanges (range ∷ others)) n
unfolding InRanges AreApart Ascend
highest_rest range others apart size n = (to, λ both. from both.0 both.1)
  where
    to : InRanges others n → IsInHighest 64 (InRanges (range ∷ others)) n
    to here =
        let past = in_above (range.end + 1) others n apart.2 here in (
          inr here,
          λ numbers up. omega (
            arith,
            few_ends (range.end + 1) 0 others apart.2
                (λ m above both. (end_behind range others m (omega (arith, past, both.0))).0 both.1) numbers up,
          ),
        )

    from : InRanges (range ∷ others) n → AtMost 64 (λ m. (n ≤ m) × EndsRun (InRanges (range ∷ others)) m)
        → InRanges others n
    from (inr here) few = here
    from (inl here) few =
        let all = all_ends {Q = λ m. (n ≤ m) × EndsRun (InRanges (range ∷ others)) m} 0 0 (range ∷ others) (omega arith)
        apart (λ m above end. (grind (arith, here, end, in_above (range.end + 1) others m apart.2), end)) in
        absurd (omega (arith, all.2, few all.0 all.1))

-- the highest runs of sets with the same numbers
highest_to : {A B : ℕ → Type 0} → ((n : ℕ) → A n ↔ B n) → (count n : ℕ) → IsInHighest count A n → IsInHighest count B n
highest_to alike count n high = (
  (alike n).0 high.0,
  λ numbers up. high.1 numbers (ascend_as 0 numbers
      (λ m both. (both.0, ((alike m).1 both.1.0, λ next. both.1.1 ((alike (m + 1)).0 next)))) up),
)

pub highest_alike : {A B : ℕ → Type 0} → ((n : ℕ) → A n ↔ B n) → (count n : ℕ)
    → IsInHighest count A n ↔ IsInHighest count B n
highest_alike alike count n =
    (highest_to alike count n, highest_to (λ m. ((alike m).1, (alike m).0)) count n)

-- ---- one more number

module _ {old mid : Ranges} {number : ℕ} {is_new : Bool} (inserted : InsertsOne old number is_new mid) where
  pub inserted_kept : length mid ≤ 64 → (n : ℕ) → InRanges mid n ↔ IsInHighest 64 (InsertNumber number (InRanges old)) n
  inserted_kept few n = iff_trans (highest_all mid inserted.apart few n) (highest_alike inserted.numbers 64 n)

  pub inserted_cut : length old ≤ 64 → 64 < length mid → (popped : Option (Range ℕ)) (new : Ranges)
      → mid ≡ option_to_list popped ++ new → IfNone popped (mid ≡ [])
      → ((n : ℕ) → InRanges new n ↔ IsInHighest 64 (InsertNumber number (InRanges old)) n) × (length new ≤ 64)
      × AreApart 0 new
  inserted_cut few many None new is none = absurd (let h : length mid ≡ 0 = ap length none in omega arith)
  inserted_cut few many (Some range) new is none =
      let apart : AreApart 0 (range ∷ new) = rw is at inserted.apart in
      let size : length mid ≡ suc (length new) = ap length is in
      let sixty_four : length new ≡ 64 = omega (arith, inserted.count) in
      let numbers : (n : ℕ) → InRanges (range ∷ new) n ↔ InsertNumber number
      (InRanges old) n = rw is at inserted.numbers in (
        λ n. iff_trans (highest_rest range new apart sixty_four n) (highest_alike numbers 64 n),
        omega arith,
        apart_rest 0 range new apart,
      )

-- if there were more than 64 ranges before the reduction, some remain
pub some_after_cut : (mid new : Ranges) (popped : Option (Range ℕ)) → 64 < length mid
    → mid ≡ option_to_list popped ++ new → AreApart 0 new → (n : ℕ) × InRanges new n
unfolding InRanges AreApart
some_after_cut mid [] popped many is apart = absurd (grind (arith, many, is))
some_after_cut mid (range ∷ others) popped many is apart = (range.start, inl (omega arith, apart.1))
