-- What is missing from a set, from what is left of it when it is reduced, and from both with one more number. Laws of
-- gaps rest on it.
use Rattle.std.proofs.Common.{ℕ, ◌-◌, ◌≤◌, inl, inr, ◌↔◌, Option, None, Some, arith}
use Rattle.std.proofs.lemmas.Bool.{cases_lt}
use Rattle.recovery_base.specs.declared.dedup.Dedup.{Dedup}
use Rattle.recovery_base.specs.Numbers.{IsMissing, IsLeastMissing, RecentNumbers, InsertNumber, Exceeds}
use Rattle.recovery_base.specs.Received.{HasReceived}
use Rattle.recovery_base.proofs.WindowLaws.{HasGreatest, greatest_with, window_known}

-- sets from which the same numbers are missing
pub least_missing_by : (A B : ℕ → Type 0) → ((m : ℕ) → IsMissing A m ↔ IsMissing B m)
    → (low high : ℕ) (found : Option ℕ) → IsLeastMissing A low high found → IsLeastMissing B low high found
least_missing_by A B same low high None none = λ m above below missing. none m above below ((same m).1 missing)
least_missing_by A B same low high (Some n) least =
    (least.0, least.1, (same n).0 least.2, λ m above below missing. least.3 m above below ((same m).1 missing))

-- the same numbers are missing from what is left of a set
pub missing_left : (Numbers Known : ℕ → Type 0) → HasGreatest Numbers → ((q : ℕ) → Known q ↔ RecentNumbers Numbers q)
    → (m : ℕ) → IsMissing Known m ↔ IsMissing Numbers m
missing_left Numbers Known has_greatest left m =
    grind (arith, left m, window_known Numbers Known has_greatest left m)

-- ---- numbers that were reached

-- what a `Dedup` knows has a largest number, or there is none
pub has_greatest : (dedup : Dedup) → HasGreatest (HasReceived dedup)
unfolding HasReceived
has_greatest dedup = elim (cases_lt 0 dedup.next) [
  | inl some ↦ inr (dedup.next - 1, inl (omega arith), λ m here. grind (arith, here))
  | inr none ↦ inl (λ m here. grind (arith, here))
]

-- a number that does not exceed a set with a largest one is reached by it
pub reached : (Numbers : ℕ → Type 0) → HasGreatest Numbers → (n : ℕ) → ¬ Exceeds Numbers n
    → (m : ℕ) × Numbers m × (n ≤ m)
reached Numbers (inl none) n within = absurd (within (λ m here. absurd (none m here)))
reached Numbers (inr g) n within = elim (cases_lt g.0 n) [
  | inl above ↦ absurd (within (λ m here. omega (arith, g.2 m here)))
  | inr below ↦ (g.0, g.1, below)
]

-- what was reached is reached after one more number
pub stays_reached : (Old New : ℕ → Type 0) (number : ℕ) → HasGreatest Old
    → ((n : ℕ) → New n ↔ RecentNumbers (InsertNumber number Old) n) → (n : ℕ) → ¬ Exceeds Old n → ¬ Exceeds New n
stays_reached Old New number greatest step n within exceeds = elim (greatest_with Old number greatest) [
  | inl none ↦ within (λ m here. absurd (none m (inr here)))
  | inr g ↦ within (λ m here.
      let less = exceeds g.0 ((step g.0).1 (g.1, λ k there. omega (arith, g.2 k there))) in
      omega (arith, less, g.2 m (inr here)))
]
