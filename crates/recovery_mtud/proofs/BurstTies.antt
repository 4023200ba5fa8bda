-- The stored sizes of bursts, compared with the bursts of the entries. `BurstRunLaws` rest on it.
use Rattle.std.proofs.Common.{◌≡◌, ◌⊎◌, ℕ, zero, suc, ◌<◌, ◌≤◌, min, max, Option, Some, None, Bool, true, false, List, [], ◌∷◌, ◌++◌, drop, length, arith, refl}
use Rattle.std.specs.Prelude.{nat_lt, nat_le, ◌&&◌, if◌then◌else◌, filter}
use Rattle.std.specs.List.{list_any}
use Rattle.std.proofs.lemmas.Bool.Decides.{nat_tests}
use Rattle.recovery_mtud.specs.declared.detector.Burst.{Burst}
use Rattle.recovery_mtud.specs.Bursts.{LossBursts, bursts_made, bursts_acked, bursts_closed, bursts_lost}
use Rattle.recovery_mtud.specs.BurstRuns.{Loss, follows, is_above, is_past}
use Rattle.recovery_mtud.proofs.BurstCounts.{tally, AllAbove, length-filter, all-filter, all-kept, tally-all, tally-raise, length-with_burst, tally-with_burst, all-with_burst, has, past_has}

-- ---- the open burst

abbrev least_size : List Loss → ℕ
least_size [] = 0
least_size (loss ∷ []) = loss.bytes
least_size (loss ∷ other ∷ losses) = min loss.bytes (least_size (other ∷ losses))

-- all are larger if the smallest is
above_least : (size : ℕ) (burst : List Loss) → is_above size burst ≡ nat_lt size (least_size burst)
above_least _ [] = grind arith
above_least _ (_ ∷ []) = grind arith
above_least size (_ ∷ other ∷ losses) = grind (arith, nat_tests, above_least size (other ∷ losses))

-- its smallest size and its last number
abbrev pub summary : List Loss → Option Burst
summary [] = None
summary (loss ∷ losses) = Some (record { least = least_size (loss ∷ losses); last = loss.number })

-- ---- what is stored, by the unrefuted bursts of the entries

-- the last number was reported as lost
abbrev IsLast : List ℕ → List Loss → Type 0
IsLast lost [] = Unit {0}
IsLast lost (loss ∷ losses) = has loss.number lost ≡ true

abbrev AreApart : List ℕ → List ℕ → Type 0
AreApart acked lost = (number : ℕ) → has number acked ≡ true → has number lost ≡ false

abbrev pub both : ℕ → ℕ → List Loss → Bool
both min_mtu low burst = is_above min_mtu burst && is_above low burst

-- for each size at most as many are stored as there are unrefuted above it and above the minimum MTU
abbrev Counts : ℕ → List (List Loss) → List ℕ → Type 0
Counts min_mtu standing kept = (low : ℕ) → tally (λ size. nat_lt low size) kept ≤ tally (both min_mtu low) standing

abbrev pub Needy : ℕ → List Loss → List (List Loss) → List ℕ → List ℕ → LossBursts → Type 0
Needy min_mtu run standing acked lost s = (s.open_burst ≡ summary run) × (s.min_mtu ≡ min_mtu)
    × AllAbove s.acked s.kept × AllAbove min_mtu s.kept
    × ((has s.newest acked ≡ true) ⊎ ((s.newest ≡ 0) × (s.acked ≡ min_mtu))) × IsLast lost run
    × Counts min_mtu standing s.kept

filter_both : (min_mtu low bytes : ℕ) (bursts : List (List Loss))
    → tally (both min_mtu low) (filter (is_above bytes) bursts) ≡ tally (both min_mtu (max low bytes)) bursts
filter_both _ _ _ [] = refl
filter_both min_mtu low bytes (burst ∷ bursts) =
    grind (arith, nat_tests, filter_both min_mtu low bytes bursts, λ (size : ℕ). above_least size burst)

filtered : (low bytes : ℕ) (sizes : List ℕ)
    → tally (λ size. nat_lt low size) (filter (λ size. nat_lt bytes size) sizes)
    ≡ tally (λ size. nat_lt (max low bytes) size) sizes
filtered _ _ [] = refl
filtered low bytes (_ ∷ sizes) = grind (arith, filtered low bytes sizes)

above_both : (min_mtu : ℕ) (bursts : List (List Loss))
    → tally (both min_mtu min_mtu) bursts ≡ length (filter (is_above min_mtu) bursts)
above_both _ [] = refl
above_both min_mtu (_ ∷ bursts) = grind (arith, above_both min_mtu bursts)

module _ (min_mtu : ℕ) (acked lost : List ℕ) (s : LossBursts) where
  -- the open burst closes
  pub close_needs : (run : List Loss) (bursts : List (List Loss)) → Needy min_mtu run bursts acked lost s
      → AreApart acked lost → Needy min_mtu [] (run ∷ bursts) acked lost (bursts_closed s)
  close_needs [] _ tie _ = grind arith
  close_needs (loss ∷ losses) _ tie apart =
      let above = λ (size : ℕ). above_least size (loss ∷ losses) in
      grind (arith, nat_tests, all-with_burst, tally-with_burst)

module _ (min_mtu : ℕ) (run : List Loss) (bursts : List (List Loss)) (acked lost : List ℕ) (s : LossBursts)
    (tie : Needy min_mtu run bursts acked lost s) where
  pub needy_acked : (number bytes : ℕ)
      → Needy min_mtu run (filter (is_above bytes) bursts) (number ∷ acked) lost (bursts_acked number bytes s)
  needy_acked _ bytes =
      let raise = λ (low : ℕ). tally-raise low bytes s.acked s.kept in
      let both_above = λ (low : ℕ). filter_both min_mtu low bytes bursts in
      grind (arith, both_above, filtered, all-kept, all-filter)

  pub needy_probed : (number bytes : ℕ)
      → Needy min_mtu run [] (number ∷ acked) lost (record s { kept = []; acked = bytes; newest = number })
  needy_probed _ _ = grind arith

  module _ (apart : AreApart acked lost) where
    pub needy_lost : (number bytes : ℕ)
        → (let this : Loss = record { number = number; bytes = bytes } in
        let joined = follows number run in
        Needy min_mtu (this ∷ (if joined then run else [])) ((if joined then [] else run ∷ []) ++ bursts) acked
        (number ∷ lost) (bursts_lost number bytes s))
    needy_lost _ _ = grind (arith, close_needs min_mtu acked lost s run bursts tie apart)

    pub needy_ended : Needy min_mtu [] (run ∷ bursts) acked lost (bursts_closed s)
        × Needy min_mtu [] [] acked lost (record (bursts_closed s) { kept = [] })
    needy_ended =
        let closed = close_needs _ _ _ s run _ tie apart in (closed, grind arith)

    pub needy_report : nat_le 4 (length (bursts_closed s).kept) ≡ true
        → 4 ≤ length (filter (is_above min_mtu) (run ∷ bursts))
    needy_report is =
        let closed = close_needs _ _ _ s run _ tie apart in
        let kept = tally-all min_mtu min_mtu (bursts_closed s).kept in
        grind (arith, nat_tests, above_both min_mtu (run ∷ bursts))

pub needy_made : (min_mtu : ℕ) (acked lost : List ℕ) → Needy min_mtu [] [] acked lost (bursts_made min_mtu)
needy_made _ acked lost = grind arith

-- ---- the same for what must come

-- from the first one on that passes the test
abbrev from_first : (List Loss → Bool) → List (List Loss) → List (List Loss)
from_first test [] = []
from_first test (burst ∷ earlier) = if list_any test (burst ∷ earlier) then burst ∷ from_first test earlier else []

-- how many there are above the minimum MTU, from the first one above these numbers on
abbrev pub counted : ℕ → List ℕ → List (List Loss) → ℕ
counted min_mtu numbers bursts = length (from_first (is_past numbers) (filter (is_above min_mtu) bursts))

-- the numbers are those of larger packets; once a burst counts, only the minimum MTU is known to get through
abbrev pub Coming : ℕ → List Loss → List (List Loss) → List ℕ → LossBursts → Type 0
Coming min_mtu run unanswered numbers s = (s.open_burst ≡ summary run) × (s.min_mtu ≡ min_mtu)
    × AllAbove min_mtu s.kept × ((s.acked ≤ min_mtu) ⊎ (has s.newest numbers ≡ true))
    × (0 < counted min_mtu numbers unanswered → s.acked ≤ min_mtu)
    × (min 4 (counted min_mtu numbers unanswered) ≤ length s.kept)

-- some count if one is above the numbers
some_counted : (test : List Loss → Bool) (bursts : List (List Loss)) → list_any test bursts ≡ true
    → 0 < length (from_first test bursts)
some_counted _ [] any = absurd (cc)
some_counted _ (_ ∷ _) any = grind arith

-- and more, if as many have closed since
behind : (test : List Loss → Bool) (count : ℕ) (bursts : List (List Loss)) → list_any test (drop count bursts) ≡ true
    → (list_any test bursts ≡ true) × (count < length (from_first test bursts))
behind test zero bursts any = grind (arith, some_counted test bursts any)
behind _ (suc _) [] any = absurd (cc)
behind test (suc count) (_ ∷ bursts) any = grind (arith, behind test count bursts any)

module _ (min_mtu : ℕ) (numbers : List ℕ) (s : LossBursts) where
  close_comes : (run : List Loss) (bursts : List (List Loss)) → Coming min_mtu run bursts numbers s
      → Coming min_mtu [] (run ∷ bursts) numbers (bursts_closed s)
  close_comes [] _ tie = grind arith
  close_comes (loss ∷ losses) bursts tie =
      let some = some_counted (is_past numbers) (filter (is_above min_mtu) bursts) in
      let above = above_least min_mtu (loss ∷ losses) in
      grind (arith, nat_tests, past_has loss.number numbers s.newest, all-with_burst, length-with_burst)

module _ (min_mtu : ℕ) (run : List Loss) (bursts : List (List Loss)) (numbers : List ℕ) (s : LossBursts)
    (tie : Coming min_mtu run bursts numbers s) where
  -- a larger packet is acknowledged: none counts; one that is not larger changes nothing
  pub coming_acked : (number bytes : ℕ) → (let larger = nat_lt min_mtu bytes in
      Coming min_mtu run (if larger then [] else bursts) (if larger then number ∷ numbers else numbers)
      (bursts_acked number bytes s))
  coming_acked number bytes = go (nat_lt min_mtu bytes) refl
    where
      go : (larger : Bool) → nat_lt min_mtu bytes ≡ larger → Coming min_mtu run (if larger then [] else bursts)
          (if larger then number ∷ numbers else numbers) (bursts_acked number bytes s)
      go true is = grind (arith, all-filter)
      go false is = grind (arith, all-filter, length-filter, tally-all bytes min_mtu s.kept)

  pub coming_probed : (number bytes : ℕ)
      → Coming min_mtu run [] (number ∷ numbers) (record s { kept = []; acked = bytes; newest = number })
  coming_probed _ _ = grind arith

  pub coming_lost : (number bytes : ℕ) → (let this : Loss = record { number = number; bytes = bytes } in
      let joined = follows number run in
      Coming min_mtu (this ∷ (if joined then run else [])) ((if joined then [] else run ∷ []) ++ bursts) numbers
      (bursts_lost number bytes s))
  coming_lost _ _ = grind (arith, close_comes min_mtu numbers s run bursts tie)

  pub coming_ended : Coming min_mtu [] (run ∷ bursts) numbers (bursts_closed s)
      × Coming min_mtu [] [] numbers (record (bursts_closed s) { kept = [] })
  coming_ended = let closed = close_comes _ _ s run bursts tie in (closed, grind arith)

  -- a report is made at four
  pub coming_report : list_any (is_past numbers) (drop 3 (filter (is_above min_mtu) (run ∷ bursts))) ≡ true
      → nat_le 4 (length (bursts_closed s).kept) ≡ true
  coming_report many =
      let four = behind (is_past numbers) 3 (filter (is_above min_mtu) (run ∷ bursts)) many in
      grind (arith, close_comes min_mtu numbers s run bursts tie)

pub coming_made : (min_mtu : ℕ) (numbers : List ℕ) → Coming min_mtu [] [] numbers (bursts_made min_mtu)
coming_made _ _ = grind arith
