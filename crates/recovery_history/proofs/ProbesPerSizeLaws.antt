-- A search probes each size at most three times, as its entries and the state of a discovery say: the clause
-- `probes_per_size` of `run`.
use Rattle.std.proofs.lemmas.Bool.Decides.{nat_tests}
use Rattle.std.proofs.lemmas.Option.{none-some, same_Some}
use Rattle.std.proofs.Common.{◌≡◌, ◌⊎◌, ℕ, ◌+◌, ◌<◌, ◌≤◌, Option, Some, None, Bool, true, false, List, [], ◌∷◌, arith, refl, sym, ◌∙◌}
use Rattle.std.specs.Prelude.{IfSome, is_some}
use Rattle.std.specs.Option.{option_and_then}
use Rattle.recovery_mtud.specs.declared.config.MtuDiscoveryConfig.{MtuDiscoveryConfig}
use Rattle.recovery_mtud.specs.declared.search.Probing.{Probing}
use Rattle.recovery_mtud.specs.Search.{MtuSearch, narrowed, probing_on, repeats, search_begun, size_to_probe}
use Rattle.recovery_mtud.specs.Bursts.{LossBursts}
use Rattle.recovery_mtud.specs.Discovery.{Discovery}
use Rattle.recovery_mtud.specs.DiscoveryLog.{MtuCall, polls, discovery_after, discovery_by}
use Rattle.recovery_mtud.specs.MtuEntries.{IsFreshDiscovery, MtuEntry, entries_by, entry_of, poll_entry, search_settings}
use Rattle.recovery_mtud.specs.SearchRuns.{probed_sizes, search_of, search_runs}
use Rattle.recovery_mtud.proofs.MtuEntryLaws.{Holds, holds_by}
use Rattle.recovery_mtud.proofs.SearchRunLaws.{idle_search}
use Rattle.recovery_mtud.proofs.UnsearchedLaws.{settings_stay}
use Rattle.recovery_history.specs.RepliesAfter.{pasts_of}
use Rattle.recovery_history.specs.History.{Beginning}
use Rattle.recovery_history.specs.Promises.ProbesPerSize.{tries, ProbesSizeAtMostThrice}
use Rattle.recovery_history.proofs.ProbeCountLaws as few
use Rattle.recovery_history.proofs.Runs.{AllAlong}
use Rattle.recovery_history.proofs.SearchLaws.{searched_one}
use Rattle.recovery_history.proofs.SearchSteps.{throughout_facts}

abbrev pub flying : Option ℕ → ℕ
flying None = 0
flying (Some number) = 1

-- how often the last size was tried: it is in flight, or was lost
abbrev pub tried : Probing → ℕ
tried p = p.losses + flying p.in_flight

-- the last size is within the bounds, above the lower one while it is tried; it was probed as often as it was tried, at
-- most three times; and no other size within the bounds was probed
pub record Tries (probed : List ℕ) (p : Probing) : Type 0 where
  pub within : (p.lower ≤ p.last) × (p.last ≤ p.upper) × (tried p ≤ 3)
  pub above : 1 ≤ tried p → p.lower < p.last
  pub last : 1 ≤ tried p → tries p.last probed ≡ tried p
  pub few : (n : ℕ) → tries n probed ≤ 3
  pub outside : (n : ℕ) → 0 < tries n probed → (n ≤ p.lower) ⊎ (p.upper < n) ⊎ (n ≡ p.last)

-- the size that is probed next
module _ (change size : ℕ) (probed : List ℕ) (p : Probing) (here : Tries probed p) (wide : 3 ≤ change)
    (empty : p.in_flight ≡ None) where
  -- another one is then within the bounds
  pub other_within : repeats p ≡ false → size_to_probe change p ≡ Some size
      → ((narrowed p).lower < size) × (size ≤ (narrowed p).upper)
  other_within same is = grind (arith, nat_tests, same, is, here.within, here.above, wide, empty)

  pub other_is_new : repeats p ≡ false → size_to_probe change p ≡ Some size → tries size probed ≡ 0
  other_is_new same is =
      grind (arith, nat_tests, other_within same is, same, here.outside size, here.within, here.above, empty)

  -- a probe of it is sent
  abbrev then : ℕ → Probing
  then number = record (narrowed p) { in_flight = Some number; last = size }

  goes : (number : ℕ) → size_to_probe change p ≡ Some size → Tries (size ∷ probed) (then number)
  goes number is = go (repeats p) refl
    where
      go : (b : Bool) → repeats p ≡ b → Tries (size ∷ probed) (then number)
      go true same = grind (arith, nat_tests, same, is, here, empty)
      go false same =
          grind (arith, nat_tests, same, is, here, empty, other_within same is, other_is_new same is)

module _ (probed : List ℕ) (p : Probing) (here : Tries probed p) where
  tries_acked : Tries probed (record p { in_flight = None; losses = 0 })
  tries_acked = grind (arith, here)

  tries_lost : (own : ℕ) → p.in_flight ≡ Some own
      → Tries probed (record p { in_flight = None; losses = p.losses + 1 })
  tries_lost own flies = grind (arith, here, flies)

-- ---- what a call leaves

-- of the search that runs
abbrev pub Tied : List MtuEntry → Option Probing → Type 0
Tied entries None = Unit {0}
Tied entries (Some p) = Tries (probed_sizes (search_of entries)) p

abbrev pub probing_of : Discovery → Option Probing
probing_of discovery = option_and_then (λ own. own.probing) discovery.search

module _ (made : Discovery) (settings : MtuDiscoveryConfig) (wide : 3 ≤ settings.minimum_change)
    (entries : List MtuEntry) (mtu limit activation : ℕ) (bursts : LossBursts) where
  abbrev search_in : Option Probing → MtuSearch
  search_in probing = record { limit = limit; probing = probing; activation = activation; settings = settings }

  abbrev old : Option Probing → Discovery
  old probing = record { mtu = mtu; search = Some (search_in probing); bursts = bursts }

  abbrev Leaves : MtuCall → Option Probing → Type 0
  Leaves call probing = Tied (entry_of call (old probing) ∷ entries) (probing_of (discovery_after call (old probing)))

  -- a poll that continues a search
  extends : (now number : ℕ) (probing : Option Probing) (p : Probing) → p.in_flight ≡ None
      → Tries (probed_sizes (search_of entries)) p → (answer : Option ℕ)
      → size_to_probe settings.minimum_change p ≡ answer
      → Tied (poll_entry now number answer ∷ entries) (probing_on now number (search_in probing) p answer).probing
  extends now number probing p empty here None is = tt
  extends now number probing p empty here (Some size) is =
      goes settings.minimum_change size _ p here wide empty number is

  -- a search that begins
  fresh : search_runs entries ≡ false → Tries (probed_sizes (search_of entries)) (search_begun mtu (search_in None))
  fresh idle = rw (idle_search entries idle) (grind arith)

  searching : (call : MtuCall) (p : Probing) (flight : Option ℕ)
      → (let probing = Some (record p { in_flight = flight }) in
      Holds made entries (old probing) → Tied entries probing → Leaves call probing)
  searching (polls now number) p None holds here =
      extends now number (Some (record p { in_flight = None })) (record p { in_flight = None }) refl here _ refl
  searching call p None holds here = grind (arith, nat_tests, sym holds.runs, here)
  searching call p (Some own) holds here =
      let flown : Probing = record p { in_flight = Some own } in
      grind (
        arith,
        nat_tests,
        sym holds.runs,
        sym holds.probe,
        here,
        tries_acked _ flown here,
        tries_lost _ flown here own refl,
      )

  leaves : (call : MtuCall) (probing : Option Probing) → Holds made entries (old probing) → Tied entries probing
      → Leaves call probing
  leaves call (Some p) holds here = searching call p p.in_flight holds here
  leaves (polls now number) None holds here =
      let begun = search_begun mtu (search_in None) in
      let found = extends now number None begun refl (fresh (sym holds.runs)) _ refl in
      grind (arith, nat_tests, found)
  leaves call None holds here = grind (arith, nat_tests)

-- ---- all calls

module _ (made : Discovery) (settings : MtuDiscoveryConfig) (new : IsFreshDiscovery made)
    (is : search_settings made ≡ Some settings) (wide : 3 ≤ settings.minimum_change) where
  first : (search : Option MtuSearch) → IfSome search (λ own. (own.probing ≡ None) × (own.activation ≡ 0))
      → Tied [] (option_and_then (λ own. own.probing) search)
  first None initial = tt
  first (Some own) initial = rw initial.0 tt

  step : (call : MtuCall) (entries : List MtuEntry) (old : Discovery) (search : Option MtuSearch)
      → (let now : Discovery = record old { search = search } in
      Holds made entries now → search_settings now ≡ Some settings → Tied entries (probing_of now)
      → Tied (entry_of call now ∷ entries) (probing_of (discovery_after call now)))
  step call entries old None holds same here = absurd (none-some settings same)
  step call entries old (Some search) holds same here =
      let own = same_Some search.settings settings same in
      leaves made search.settings (rw own wide) entries old.mtu search.limit search.activation old.bursts call
      search.probing holds here

  abbrev pub Kept : List MtuCall → Type 0
  Kept calls = let now = discovery_by made calls in
      (search_settings now ≡ Some settings) × Tied (entries_by made calls) (probing_of now)

  pub kept_by : (calls : List MtuCall) → Kept calls
  kept_by [] = (is, first made.search new.search)
  kept_by (call ∷ earlier) =
      let kept = kept_by earlier in
      let old = discovery_by made earlier in (
        settings_stay call old ∙ kept.0,
        step call (entries_by made earlier) old old.search (holds_by made new earlier) kept.0 kept.1,
      )

  few_in : (entries : List MtuEntry) (probing : Option Probing) → is_some probing ≡ search_runs entries
      → Tied entries probing → (n : ℕ) → tries n (probed_sizes (search_of entries)) ≤ 3
  few_in entries None runs here n = rw (idle_search entries (sym runs)) (omega arith)
  few_in entries (Some p) runs here n = here.few n

  few_by : (calls : List MtuCall) (n : ℕ) → tries n (probed_sizes (search_of (entries_by made calls))) ≤ 3
  few_by calls =
      few_in (entries_by made calls) (probing_of (discovery_by made calls)) (holds_by made new calls).runs
      (kept_by calls).1

-- ---- throughout a run

module _ {F K Q S M P : Type 0} (beginning : Beginning F K Q S M P) where
  pub tries_told : AllAlong beginning (ProbesSizeAtMostThrice beginning)
  tries_told =
      throughout_facts beginning (few.Tied beginning) (few.tied_after beginning) (refl, refl, tt)
      (λ history event reply known tied settings is change size. (
      let past = (pasts_of beginning ((event, reply) ∷ history)).current in
      let by = (searched_one beginning history event reply known.told known.searched).0 in
      rw (few.tied_after beginning history event reply known tied).1
      (few_by past.kept.discovery settings by.untold (by.settings_are ∙ is) change past.searched size)))
