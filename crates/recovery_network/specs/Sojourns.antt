-- How long packets waited, as controlled delay sees it (RFC 8289, 4.1): since when the queue is too long, and for how
-- long a packet that is dropped must have seen that.
use Rattle.std.specs.Prelude.{◌≡◌, ℕ, ◌+◌, ◌≤◌, min, Bool, true, false, nat_lt, nat_le, if◌then◌else◌, List, [], ◌∷◌, Option, None, Some, MatchOption, IsTrue}
use Rattle.recovery_base.specs.Units.{last_time}
use Rattle.recovery_network.specs.declared.codel.Look.{Look}

-- the largest packet, in bytes
abbrev pub largest_packet : ℕ
largest_packet = 1500

-- the packet waited for less than the target, or no more than one packet waits after it
abbrev pub is_short : ℕ → Look → Bool
is_short target look = if nat_lt look.sojourn target then true else nat_le look.behind largest_packet

-- since when each packet found a queue that is too long, by the packets seen, the newest first
abbrev pub since_with : ℕ → Option ℕ → Option ℕ
since_with now None = Some now
since_with now (Some since) = Some since

abbrev pub above_since : ℕ → List Look → Option ℕ
above_since target [] = None
above_since target (look ∷ past) =
    if is_short target look then None else since_with look.now (above_since target past)

-- it was too long for an interval
abbrev pub IsAbove : ℕ → ℕ → Option ℕ → Type 0
IsAbove interval now since = MatchOption since ⊥ (λ from. min last_time (from + interval) ≤ now)

-- a packet is dropped only if the queue was too long for an interval before it, and is
abbrev pub Drops : Look → ℕ → ℕ → Option ℕ → Option ℕ → Bool → Type 0
Drops look target interval old new is_dropped = (past : List Look) → old ≡ above_since target past
    → (new ≡ above_since target (look ∷ past))
    × (IsTrue is_dropped → IsAbove interval look.now (above_since target past) × (is_short target look ≡ false))
