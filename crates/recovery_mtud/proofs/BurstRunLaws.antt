-- The detection of black holes over all calls: a report needs four bursts, and is made at four. The driver's
-- `BurstLaws` rest on it.
use Rattle.std.proofs.Common.{◌≡◌, ℕ, Bool, is_some, ◌||◌, nat_lt, filter, if◌then◌else◌, true, false, List, [], ◌∷◌, refl, arith}
use Rattle.recovery_mtud.specs.Bursts.{LossBursts, bursts_acked, bursts_closed}
use Rattle.recovery_mtud.specs.Discovery.{Discovery, reports}
use Rattle.recovery_mtud.specs.DiscoveryLog.{MtuCall, polls, acks, loses, losses_end, discovery_after, discovery_by}
use Rattle.recovery_mtud.specs.MtuEntries.{IsFreshDiscovery, MtuEntry, losses_over, reported, probe_in_flight, size_at, entry_of, entries_by, min_mtu_in_use}
use Rattle.recovery_mtud.specs.BurstRuns.{Loss, is_above, open_run, standing, unanswered, larger_acked, acked_numbers, lost_numbers, AreFatesApart, AreFourStanding, AreFourUnanswered}
use Rattle.recovery_mtud.proofs.MtuEntryLaws.{polled, Holds, holds_by, size_in_held}
use Rattle.recovery_mtud.proofs.BurstCounts.{has}
use Rattle.recovery_mtud.proofs.BurstTies.{Needy, Coming, needy_acked, needy_probed, needy_lost, needy_ended, needy_report, needy_made, coming_acked, coming_probed, coming_lost, coming_ended, coming_report, coming_made}

-- ---- outcomes that are disjoint

-- they were disjoint before
apart_before : (entry : MtuEntry) (entries : List MtuEntry) → AreFatesApart (entry ∷ entries) → AreFatesApart entries
apart_before _ _ apart number good = grind arith

-- ---- one call

abbrev NeedyAt : Discovery → List MtuEntry → LossBursts → Type 0
NeedyAt made entries =
    Needy (min_mtu_in_use made entries) (open_run entries) (standing entries) (acked_numbers entries)
    (lost_numbers entries)

abbrev ComingAt : Discovery → List MtuEntry → LossBursts → Type 0
ComingAt made entries =
    let least = min_mtu_in_use made entries in
    Coming least (open_run entries) (unanswered least entries) (larger_acked least entries)

module _ (made : Discovery) (entries : List MtuEntry) (old : Discovery) (holds : Holds made entries old) where
  -- what holds if a packet is no probe and if it is the one in flight holds after its acknowledgement
  at_ack : (number bytes : ℕ) (G : Bool → LossBursts → Type 0) → G false (bursts_acked number bytes old.bursts)
      → G true (record old.bursts { kept = []; acked = bytes; newest = number })
      → G (is_some (size_at number (probe_in_flight entries))) (discovery_after (acks number bytes) old).bursts
  at_ack number bytes G other probe = grind (arith, size_in_held number old.search, holds.probe)

  -- the same for the end of losses, with a report and without one
  at_end : (now : ℕ) (G : MtuEntry → LossBursts → Type 0) → G losses_over (bursts_closed old.bursts)
      → G (reported now) (record (bursts_closed old.bursts) { kept = [] })
      → G (entry_of (losses_end now) old) (discovery_after (losses_end now) old).bursts
  at_end now G none hole = grind arith

  needy_after : (call : MtuCall) → AreFatesApart entries → NeedyAt made entries old.bursts
      → NeedyAt made (entry_of call old ∷ entries) (discovery_after call old).bursts
  needy_after (acks number bytes) _ tie =
      at_ack _ _ (λ probe. Needy (min_mtu_in_use made entries) (open_run entries)
      (if probe then [] else filter (is_above bytes) (standing entries)) (number ∷ acked_numbers entries)
      (lost_numbers entries))
      (needy_acked _ _ _ _ _ old.bursts tie number bytes) (needy_probed _ _ _ _ _ old.bursts tie number bytes)
  needy_after (loses number bytes) apart tie =
      needy_lost _ _ _ _ _ old.bursts tie apart number bytes
  needy_after (losses_end now) apart tie =
      let ended = needy_ended _ _ _ _ _ old.bursts tie apart in
      at_end now (λ entry. NeedyAt made (entry ∷ entries)) ended.0 ended.1
  needy_after (polls now next) _ tie = grind arith
  needy_after _ _ tie = grind arith

  abbrev size : ℕ
  size = min_mtu_in_use made entries

  abbrev bursts : List (List Loss)
  bursts = unanswered size entries

  abbrev numbers : List ℕ
  numbers = larger_acked size entries

  coming_after : (call : MtuCall) → ComingAt made entries old.bursts
      → ComingAt made (entry_of call old ∷ entries) (discovery_after call old).bursts
  coming_after (acks number bytes) tie =
      at_ack _ _ (λ probe. let larger = probe || nat_lt size bytes in
      Coming size (open_run entries) (if larger then [] else bursts) (if larger then number ∷ numbers else numbers))
      (coming_acked _ _ bursts numbers old.bursts tie number bytes)
      (coming_probed _ _ bursts numbers old.bursts tie number bytes)
  coming_after (loses number bytes) tie = coming_lost _ _ bursts numbers old.bursts tie number bytes
  coming_after (losses_end now) tie =
      let ended = coming_ended _ _ bursts numbers old.bursts tie in
      at_end now (λ entry. ComingAt made (entry ∷ entries)) ended.0 ended.1
  coming_after (polls now next) tie = polled
      (λ entry. ComingAt made (entry ∷ entries) old.bursts) now next _ tie (λ size. tie)
  coming_after _ tie = grind arith

-- ---- all calls

needy_by : (made : Discovery) → IsFreshDiscovery made → (calls : List MtuCall) → AreFatesApart (entries_by made calls)
    → NeedyAt made (entries_by made calls) (discovery_by made calls).bursts
needy_by made new [] _ =
    rw new.bursts (needy_made _ [] [])
needy_by made new (call ∷ earlier) apart =
    let before = apart_before _ (entries_by made earlier) apart in
    needy_after made _ _ (holds_by _ new earlier) call before (needy_by _ new earlier before)

coming_by : (made : Discovery) → IsFreshDiscovery made → (calls : List MtuCall)
    → ComingAt made (entries_by made calls) (discovery_by made calls).bursts
coming_by made new [] =
    rw new.bursts (coming_made _ [])
coming_by made new (call ∷ earlier) =
    coming_after made _ _ (holds_by _ new earlier) call (coming_by _ new earlier)

-- if a black hole is reported, there are four unrefuted bursts
pub four_stand : (made : Discovery) → IsFreshDiscovery made → (calls : List MtuCall) → AreFatesApart
    (entries_by made calls)
    → reports (discovery_by made calls) ≡ true → AreFourStanding made (entries_by made calls)
four_stand made new calls apart =
    needy_report _ _ _ _ _ _ (needy_by _ new calls apart) apart

-- if four have closed unanswered, the end of losses reports a black hole
pub four_report : (made : Discovery) → IsFreshDiscovery made → (calls : List MtuCall)
    → AreFourUnanswered made (entries_by made calls) → reports (discovery_by made calls) ≡ true
four_report made new calls =
    let entries = entries_by made calls in
    let least = min_mtu_in_use made entries in
    coming_report least _ (unanswered least entries) (larger_acked least entries) _ (coming_by _ new calls)

-- ---- numbers by the calls

abbrev pub acked_in_calls : List MtuCall → List ℕ
acked_in_calls [] = []
acked_in_calls (acks number bytes ∷ earlier) = number ∷ acked_in_calls earlier
acked_in_calls (call ∷ earlier) = acked_in_calls earlier

abbrev pub lost_in_calls : List MtuCall → List ℕ
lost_in_calls [] = []
lost_in_calls (loses number bytes ∷ earlier) = number ∷ lost_in_calls earlier
lost_in_calls (call ∷ earlier) = lost_in_calls earlier

abbrev pub HaveNumbers : List MtuEntry → List MtuCall → Type 0
HaveNumbers entries calls = (acked_numbers entries ≡ acked_in_calls calls)
    × (lost_numbers entries ≡ lost_in_calls calls)

-- the numbers of the entries are those of the calls
pub numbers_by : (made : Discovery) (calls : List MtuCall) → HaveNumbers (entries_by made calls) calls
numbers_by _ [] = (refl, refl)
numbers_by made (_ ∷ earlier) = grind (arith, numbers_by made earlier)

-- outcomes that are disjoint in the calls are disjoint in the entries
pub fates_apart_by : (made : Discovery) (calls : List MtuCall)
    → ((number : ℕ) → has number (acked_in_calls calls) ≡ true → has number (lost_in_calls calls) ≡ false)
    → AreFatesApart (entries_by made calls)
fates_apart_by made calls apart number good =
    grind (arith, numbers_by made calls)
