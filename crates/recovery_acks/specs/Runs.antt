-- The highest runs of a set of numbers (RFC 9000, 13.2.3).
use Rattle.std.specs.Prelude.{ℕ, ◌+◌, ◌≤◌, List, [], ◌∷◌, length, ⊤}

-- a run of the set ends at n
abbrev pub EndsRun : (ℕ → Type 0) → ℕ → Type 0
EndsRun Numbers n = Numbers n × ¬ Numbers (n + 1)

-- numbers in ascending order from `low` on, each with P
unfoldable pub Ascend : (ℕ → Type 0) → ℕ → List ℕ → Type 0
Ascend P low [] = ⊤
Ascend P low (n ∷ others) = (low ≤ n) × P n × Ascend P (n + 1) others

-- at most `count` numbers have P
abbrev pub AtMost : ℕ → (ℕ → Type 0) → Type 0
AtMost count P = (numbers : List ℕ) → Ascend P 0 numbers → length numbers ≤ count

-- n is in one of the `count` highest maximal runs of the set: at most that many end at it or above
abbrev pub IsInHighest : ℕ → (ℕ → Type 0) → ℕ → Type 0
IsInHighest count Numbers n = Numbers n × AtMost count (λ m. (n ≤ m) × EndsRun Numbers m)

-- more than that many ranges of a set end at a number or above it
abbrev pub LiesBelow : ℕ → (ℕ → Type 0) → ℕ → Type 0
LiesBelow count Numbers n = ¬ AtMost count (λ end. (n ≤ end) × EndsRun Numbers end)
