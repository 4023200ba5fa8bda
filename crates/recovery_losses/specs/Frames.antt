-- When an ACK frame was received, and its ranges, the highest first, in the order of the frame (RFC 9000, 19.3.1).
use Rattle.std.specs.Prelude.{ℕ, ◌+◌, ◌≤◌, ◌⊎◌, ◌&&◌, min, nat_le, Bool, true, false, List, [], ◌∷◌, Option, None, Some}
use Rattle.std.specs.Option.{option_map_or}
use Rattle.recovery_losses.specs.declared.frames.Ack.{Ack}

-- when a frame was received that is processed at `now`: a later time counts as `now`, and so does none (RFC 9002, 5.3)
abbrev pub received_at : Ack → ℕ → ℕ
received_at ack now = option_map_or (λ received. min received now) ack.received now

-- a range ends below the one above it, if any, with a number between them
abbrev pub is_apart : ℕ → Option ℕ → Bool
is_apart last None = true
is_apart last (Some above) = nat_le (last + 2) above

-- no range ends before it begins, and each is apart from the one above it
abbrev pub are_apart : Option ℕ → List (ℕ × ℕ) → Bool
are_apart above [] = true
are_apart above (range ∷ ranges) =
    nat_le range.0 range.1 && is_apart range.1 above && are_apart (Some range.0) ranges

abbrev pub are_ranges : List (ℕ × ℕ) → Bool
are_ranges [] = false
are_ranges ranges = are_apart None ranges

-- the largest number of a frame
abbrev pub largest_of : List (ℕ × ℕ) → Option ℕ
largest_of [] = None
largest_of (range ∷ ranges) = Some range.1

-- the largest number is at or above the next number to be sent
abbrev pub is_unsent : Option ℕ → ℕ → Bool
is_unsent None next = false
is_unsent (Some largest) next = nat_le next largest

-- a number is in one of the ranges
abbrev pub IsInAckRanges : ℕ → List (ℕ × ℕ) → Type 0
IsInAckRanges number [] = ⊥
IsInAckRanges number (range ∷ ranges) = (range.0 ≤ number) × (number ≤ range.1) ⊎ IsInAckRanges number ranges
