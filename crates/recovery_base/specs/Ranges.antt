-- A set of numbers, stored as ranges, as in ACK frames (RFC 9000, 19.3.1).
use Rattle.std.specs.Prelude.{ℕ, ◌≡◌, ◌+◌, ◌<◌, ◌≤◌, ◌⊎◌, ◌↔◌, List, [], ◌∷◌, length, take, drop, map, min, max, cond, nat_lt, ⊤, Bool, MatchBool, Any}
use Rattle.std.specs.List.{filter}
use Rattle.std.specs.declared.ops.Range.{Range}
use Rattle.recovery_base.specs.Numbers.{InsertNumber}

-- n is in one of the ranges
unfoldable pub InRanges : List (Range ℕ) → ℕ → Type 0
InRanges [] n = ⊥
InRanges (range ∷ others) n = ((range.start ≤ n) × (n < range.end)) ⊎ InRanges others n

-- none is empty, each begins above the end of the one before, without touching it, and the first not below `low`
unfoldable pub AreApart : ℕ → List (Range ℕ) → Type 0
AreApart low [] = ⊤
AreApart low (range ∷ others) = (low ≤ range.start) × (range.start < range.end) × AreApart (range.end + 1) others

-- a number is added to the ranges: whether it is new, and the numbers in them afterwards
pub record InsertsOne (old : List (Range ℕ)) (number : ℕ) (is_new : Bool) (new : List (Range ℕ)) : Type 0 where
  pub answer : MatchBool is_new (¬ InRanges old number) (InRanges old number)
  pub numbers : (n : ℕ) → InRanges new n ↔ InsertNumber number (InRanges old) n
  pub apart : AreApart 0 new
  pub count : length new ≤ length old + 1

-- the numbers from `start` up to `end`
abbrev pub IsBetween : ℕ → ℕ → ℕ → Type 0
IsBetween start end n = (start ≤ n) × (n < end)

-- numbers from `start` up to `end` are removed from the middle of one range: it has others on both sides
abbrev pub IsSplitBy : List (Range ℕ) → ℕ → ℕ → Type 0
IsSplitBy ranges start end = (start < end) × Any (λ (range : Range ℕ). (range.start < start) × (end < range.end)) ranges

-- the numbers from `start` up to `end` are removed from the ranges: whether they had one, and the numbers in them
-- afterwards
pub record Removes (old : List (Range ℕ)) (start end : ℕ) (some : Bool) (new : List (Range ℕ)) : Type 0 where
  pub answer : MatchBool some ((n : ℕ) × InRanges old n × IsBetween start end n) ((n : ℕ) → IsBetween start end n
      → ¬ InRanges old n)
  pub numbers : (n : ℕ) → InRanges new n ↔ (InRanges old n × ¬ IsBetween start end n)
  pub apart : AreApart 0 new
  pub count : start ≡ 0 → length new ≤ length old

-- the smallest number that may follow some ranges without touching them
unfoldable pub floor_above : ℕ → List (Range ℕ) → ℕ
floor_above low [] = low
floor_above low (range ∷ others) = floor_above (range.end + 1) others

-- the first of some ranges ends at x or above it
abbrev pub EndsFrom : ℕ → List (Range ℕ) → Type 0
EndsFrom x [] = ⊤
EndsFrom x (range ∷ others) = x ≤ range.end

-- the position of the first range that ends at x or above it
pub record IsPlace (ranges : List (Range ℕ)) (x at : ℕ) : Type 0 where
  pub bound : at ≤ length ranges
  pub below : floor_above 0 (take at ranges) ≤ x
  pub above : EndsFrom x (drop at ranges)

abbrev pub span : ℕ → ℕ → Range ℕ
span start end = record { start = start; end = end }

-- a range without them, empty if none is left
abbrev pub clipped : ℕ → ℕ → Range ℕ → Range ℕ
clipped start end range =
    cond (nat_lt range.start start) (span range.start (min range.end start)) (span (max range.start end) range.end)

abbrev pub is_some_range : Range ℕ → Bool
is_some_range range = nat_lt range.start range.end

abbrev pub cut_ranges : ℕ → ℕ → List (Range ℕ) → List (Range ℕ)
cut_ranges start end ranges = filter is_some_range (map (clipped start end) ranges)
