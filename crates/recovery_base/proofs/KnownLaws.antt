-- The numbers that a window knows: those at places below 128, counted down from the largest, and that one. `Dedup`
-- rests on it.
use Rattle.std.proofs.Common.{◌≡◌, ℕ, ◌+◌, ◌-◌, ◌<◌, ◌≤◌, inl, inr, ◌⊎◌, ◌↔◌, min, None, Some}
use Rattle.std.proofs.Common.{refl, arith, Bool, true, false, MatchBool}
use Rattle.std.proofs.lemmas.Bool.{cases_lt}
use Rattle.recovery_base.specs.Numbers.{IsNewNumber, IsInWindow, IsMissing, IsLeastMissing, InsertsIntoDedup, RecentNumbers, InsertNumber}
use Rattle.recovery_base.specs.Received.{IsKnown, ShiftsBy, SetsBit, AreBitsSet, IsHighestClear}
use Rattle.recovery_base.proofs.WindowLaws.{member_is_not_new, old_is_not_new, old_adds_nothing, member_adds_nothing}

-- all places are below 128
abbrev pub AreWithin : (ℕ → Type 0) → Type 0
AreWithin Places = (place : ℕ) → Places place → place < 128

-- ---- one set of places

module _ (Places : ℕ → Type 0) (next number : ℕ) where
  pub known_below : IsKnown Places next number → number < next
  known_below here = grind arith

  known_cut : AreWithin Places → IsKnown Places next number → IsInWindow (IsKnown Places next) number
  known_cut within here = grind arith

  pub exceeds_is_new : next ≤ number → IsNewNumber (IsKnown Places next) number
  exceeds_is_new above = grind arith

  new_bounds : IsNewNumber (IsKnown Places next) number →
      (next ≤ number) ⊎ ((¬ IsKnown Places next number) × (next ≤ number + 129))
  new_bounds (inl exceeds) =
      let last : 0 < next → next - 1 < number = λ some. exceeds (next - 1) (inl (omega arith)) in grind arith
  new_bounds (inr gap) =
      let last : 0 < next → next - 1 ≤ number + 128 = λ some. gap.1 (next - 1) (inl (omega arith)) in
      inr (gap.0, grind arith)

module _ (Places : ℕ → Type 0) (next number : ℕ) (within : AreWithin Places) where
  -- a duplicate

  pub known_duplicate : IsKnown Places next number → InsertsIntoDedup (IsKnown Places next) number true
      (IsKnown Places next)
  known_duplicate here = record {
    answer = member_is_not_new _ _ here;
    numbers = member_adds_nothing _ number (λ n. known_cut Places next n within) here;
  }

  pub old_duplicate : number + 129 < next → InsertsIntoDedup (IsKnown Places next) number true (IsKnown Places next)
  old_duplicate far = record {
    answer = old_is_not_new _ _ (next - 1) (inl (omega arith)) (omega arith);
    numbers = old_adds_nothing _ number (λ n. known_cut Places next n within) (next - 1)
        (inl (omega arith)) (omega arith);
  }

-- no number becomes new if the known set moves on to another one
pub stays_known : (Places Places' : ℕ → Type 0) (next next' number : ℕ) → next ≤ next' → number < next' →
    ((n : ℕ) → IsKnown Places' next' n ↔ RecentNumbers (InsertNumber number (IsKnown Places next)) n) → (n : ℕ) →
    ¬ IsNewNumber (IsKnown Places next) n → ¬ IsNewNumber (IsKnown Places' next') n
stays_known Places Places' next next' number on below numbers n known new =
    let window : next' ≤ n + 129 → IsInWindow (InsertNumber number (IsKnown Places next)) n = λ close m here. grind
    (arith, here) in
    known (grind (arith, new_bounds Places' next' n new, (numbers n).1, window))

-- ---- a number above all others

pub moved_on : (Old New : ℕ → Type 0) (next by number : ℕ) → number + 1 ≡ next + by → 0 < by → ShiftsBy by Old New →
    (n : ℕ) → IsKnown New (number + 1) n ↔ RecentNumbers (InsertNumber number (IsKnown Old next)) n
moved_on Old New next by number same _ moves n =
    let e : number + 1 - 2 - n - by ≡ next - 2 - n = omega arith in
    let moved = rw e at (moves (number + 1 - 2 - n)) in
    (λ here. grind arith, λ r. grind (arith, r.1 number (inl refl)))

-- ---- a number among the others

module _ (Old New : ℕ → Type 0) (next number : ℕ) {place : ℕ} (within : AreWithin Old) (lower : number + 1 < next)
    (close : next ≤ number + 129) (at : place ≡ next - 2 - number) (sets : SetsBit place Old New) where
  pub set_known : (n : ℕ) → IsKnown New next n ↔ RecentNumbers (InsertNumber number (IsKnown Old next)) n
  set_known n = (
    λ here. grind arith,
    λ r. grind arith,
  )

  -- the answer is whether the place was set
  pub set_inserts : (was : Bool) → MatchBool was (Old place) (¬ Old place) →
      InsertsIntoDedup (IsKnown Old next) number was (IsKnown New next)
  set_inserts true set = record {
    answer = member_is_not_new _ _ (inr (lower, rw at at set));
    numbers = set_known;
  }
  set_inserts false clear = record {
    answer = let none : ¬ Old (next - 2 - number) = rw at at clear in grind (arith, none);
    numbers = set_known;
  }

-- ---- the smallest missing number

-- between `low` and `high` are the numbers at places below `places`, and those too far below the largest
module _ (Places : ℕ → Type 0) (next low high places : ℕ) (reached : high < next)
    (few : places ≡ min (next - 1 - 1 - low) 128) where
  full_above : (start m : ℕ) → AreBitsSet Places start places → low < m → m < high → start ≤ next - 2 - m →
      ¬ IsMissing (IsKnown Places next) m
  full_above start m set above below far missing =
      grind (arith, missing.0, missing.1 (next - 1) (inl (omega arith)), set (next - 2 - m) far)

  pub none_clear : AreBitsSet Places 0 places → IsLeastMissing (IsKnown Places next) low high None
  none_clear set m above below = full_above 0 m set above below (omega arith)

  module _ (place : ℕ) (highest : IsHighestClear Places places place) where
    pub clear_behind : high ≤ next - 1 - 1 - place → IsLeastMissing (IsKnown Places next) low high None
    clear_behind behind m above below = full_above (place + 1) m highest.2 above below (omega arith)

    pub clear_found : next - 1 - 1 - place < high →
        IsLeastMissing (IsKnown Places next) low high (Some (next - 1 - 1 - place))
    clear_found found =
        let k : place < places = highest.0 in
        let none : ¬ Places (next - 2 - (next - 1 - 1 - place)) =
        (let e : next - 2 - (next - 1 - 1 - place) ≡ place = omega arith in rw e highest.1) in (
          omega arith,
          found,
          (grind (arith, none), λ m here. grind (arith, here)),
          λ m above under missing. elim (cases_lt m (next - 1 - 1 - place)) [
            | inl less ↦ absurd (full_above (place + 1) m highest.2 above under (omega arith) missing)
            | inr done ↦ done
          ],
        )
