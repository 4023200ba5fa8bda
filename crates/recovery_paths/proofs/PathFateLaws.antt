-- How often a number is reported to the search of the path in use as acknowledged or lost: at most as often as that
-- happened. The driver's `SearchOutcomeLaws` rest on it.
use Rattle.std.proofs.Common.{◌≡◌, ℕ, ◌+◌, ◌≤◌, Bool, true, List, [], ◌∷◌, ◌++◌, refl, arith}
use Rattle.std.specs.Prelude.{nat_eq}
use Rattle.std.specs.Set.{is_member}
use Rattle.std.proofs.lemmas.Bool.Decides.{nat_tests}
use Rattle.recovery_spaces.specs.Departures.{one_if_same}
use Rattle.recovery_mtud.specs.BurstRuns.{AreFatesApart}
use Rattle.recovery_mtud.specs.Discovery.{Discovery}
use Rattle.recovery_mtud.specs.DiscoveryLog.{MtuCall, acks, loses}
use Rattle.recovery_mtud.specs.MtuEntries.{entries_by}
use Rattle.recovery_mtud.proofs.BurstRunLaws.{acked_in_calls, lost_in_calls, fates_apart_by}
use Rattle.recovery_paths.specs.declared.path_pair.PathName.TheVariants.{Current, Previous}
use Rattle.recovery_paths.specs.PathLog.{PathsEntry, PathEntry, PathHistory, pasts_by, on, moves, drops_previous, reverts, searches}
use Rattle.recovery_paths.specs.PathMaking.{PathSettings}
use Rattle.recovery_paths.specs.PathStates.{PathState}

-- ---- the outcomes of a number, by the calls of a search

-- 1 if a call reports the number as acknowledged or lost, except for the probe in flight
abbrev pub fate : ℕ → MtuCall → ℕ
fate number (acks other bytes) = one_if_same other number
fate number (loses other bytes) = one_if_same other number
fate number call = 0

-- how often the number has an outcome
abbrev pub fates : ℕ → List MtuCall → ℕ
fates number [] = 0
fates number (call ∷ earlier) = fates number earlier + fate number call

-- how often it occurs among others
abbrev times : ℕ → List ℕ → ℕ
times number [] = 0
times number (other ∷ numbers) = times number numbers + one_if_same other number

-- it is one of them
abbrev has : ℕ → List ℕ → Bool
has number numbers = is_member nat_eq numbers number

-- the outcomes are those of the numbers acknowledged and of those lost
fates_are : (number : ℕ) (calls : List MtuCall)
    → fates number calls ≡ times number (acked_in_calls calls) + times number (lost_in_calls calls)
fates_are number [] = refl
fates_are number (call ∷ earlier) = grind (arith, fates_are number earlier)

-- what is among others occurs there
stands : (number : ℕ) (numbers : List ℕ) → has number numbers ≡ true → 1 ≤ times number numbers
stands number [] is = absurd (cc)
stands number (other ∷ numbers) is = grind (arith, nat_tests, stands number numbers)

-- if each number has at most one outcome, none is both acknowledged and lost
pub apart_once : (made : Discovery) (calls : List MtuCall) → ((number : ℕ) → fates number calls ≤ 1)
    → AreFatesApart (entries_by made calls)
apart_once made calls once =
    fates_apart_by made calls (λ number good. grind (
      arith,
      once number,
      fates_are number calls,
      stands number (acked_in_calls calls) good,
      stands number (lost_in_calls calls),
    ))

-- ---- what happens on the paths

-- 1 if an entry reports an outcome of the number to the search of the path in use
abbrev pub told_on_path : ℕ → PathEntry → ℕ
told_on_path number (searches call) = fate number call
told_on_path number entry = 0

-- of the entries of the paths, those on the one in use report it
abbrev pub told_by : ℕ → PathsEntry → ℕ
told_by number (on Current entry) = told_on_path number entry
told_by number (on Previous entry) = 0
told_by number (moves following) = 0
told_by number drops_previous = 0
told_by number (reverts limit) = 0

abbrev pub told_in : ℕ → List PathsEntry → ℕ
told_in number [] = 0
told_in number (entry ∷ earlier) = told_in number earlier + told_by number entry

-- earlier entries add their reports
pub told-append : (number : ℕ) (entries log : List PathsEntry)
    → told_in number (entries ++ log) ≡ told_in number log + told_in number entries
told-append number [] log = omega arith
told-append number (entry ∷ entries) log = omega (arith, told-append number entries log)

module _ {K : Type 0} (settings : PathSettings K) (number : ℕ) where
  abbrev fates_on : PathHistory K → ℕ
  fates_on past = fates number past.searched

  -- on the path in use a number has at most the outcomes that were reported
  pub fates_by : (first : PathState K) (log : List PathsEntry)
      → fates_on (pasts_by settings first log).current ≤ told_in number log
  fates_by first [] = omega arith
  fates_by first (entry ∷ log) = grind (arith, fates_by first log)
