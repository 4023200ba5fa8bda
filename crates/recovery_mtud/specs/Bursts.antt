-- The detection of black holes by bursts of losses (RFC 8899, 4.3): packets with consecutive numbers that were lost. A
-- burst is suspicious if all its packets were larger than what is known to get through. Sizes are in bytes.
use Rattle.std.specs.Prelude.{ℕ, ◌+◌, ◌≤◌, ◌<◌, ◌==◌, nat_lt, nat_le, min, max, Bool, false, ◌&&◌, not, if◌then◌else◌, Option, Some, None, List, [], ◌∷◌, ◌++◌, length, filter}
use Rattle.std.specs.List.{reduce}
use Rattle.std.specs.Option.{option_map, option_map_or, unwrap_or}
use Rattle.recovery_mtud.specs.declared.detector.Burst.{Burst}

-- this many suspicious bursts of losses are a black hole (RFC 8899, 4.3)
abbrev pub black_hole_bursts : ℕ
black_hole_bursts = 4

pub record LossBursts : Type 0 where
  -- the smallest sizes of the suspicious bursts that have closed
  pub kept : List ℕ
  -- the burst that the next lost number may join: its smallest size and its last number
  pub open_burst : Option Burst
  -- the largest size acknowledged since the newest suspicious burst, or the minimum MTU, and the packet of it
  pub acked : ℕ
  pub newest : ℕ
  pub min_mtu : ℕ

abbrev pub bursts_made : ℕ → LossBursts
bursts_made min_mtu = record { kept = []; open_burst = None; acked = min_mtu; newest = 0; min_mtu = min_mtu }

-- ---- acknowledgements

-- only bursts all of whose packets were larger stay suspicious
abbrev pub bursts_acked : ℕ → ℕ → LossBursts → LossBursts
bursts_acked number size old =
    if nat_lt size old.acked then old
    else (if size == old.acked then record old { newest = max old.newest number }
    else record old { kept = filter (λ least. nat_lt size least) old.kept; acked = size; newest = number })

-- ---- losses

-- the list with this size in place of the first occurrence of that
abbrev pub in_place : ℕ → ℕ → List ℕ → List ℕ
in_place this that [] = []
in_place this that (size ∷ sizes) = if size == that then this ∷ sizes else size ∷ in_place this that sizes

-- four are stored; a fifth replaces the first of the smallest, if that is smaller
abbrev pub with_burst : ℕ → List ℕ → List ℕ
with_burst size sizes =
    let least = unwrap_or (reduce min sizes) 0 in
    if nat_lt (length sizes) black_hole_bursts then sizes ++ size ∷ []
    else (if nat_lt least size then in_place size least sizes else sizes)

-- its packets were larger than the minimum MTU, and than any packet sent after it and acknowledged
abbrev pub is_suspicious : Burst → LossBursts → Bool
is_suspicious burst old =
    nat_lt old.min_mtu burst.least && not (nat_lt burst.last old.newest && nat_le burst.least old.acked)

-- a suspicious burst is stored; if it is newer than what was acknowledged, only the minimum MTU is known to get through
abbrev pub closing : Burst → LossBursts → LossBursts
closing burst old =
    if is_suspicious burst old then record old {
      kept = with_burst burst.least old.kept;
      open_burst = None;
      acked = if nat_lt old.newest burst.last then old.min_mtu else old.acked;
    } else record old { open_burst = None }

-- the open burst closes, if there is one
abbrev pub bursts_closed : LossBursts → LossBursts
bursts_closed old = option_map_or (λ burst. closing burst old) old.open_burst old

-- a number joins the burst whose last number is the one before it; else that burst closes and another one begins
abbrev pub bursts_lost : ℕ → ℕ → LossBursts → LossBursts
bursts_lost number size old =
    if option_map_or (λ burst. number == burst.last + 1) old.open_burst false then record old {
      open_burst = option_map (λ burst. record { least = min burst.least size; last = number }) old.open_burst;
    } else record (bursts_closed old) { open_burst = Some (record { least = size; last = number }) }

-- ---- invariants of all bursts

pub record AreBurstsSound (bursts : LossBursts) : Type 0 where
  pub few : length bursts.kept ≤ black_hole_bursts
  pub min_mtu : 0 < bursts.min_mtu
