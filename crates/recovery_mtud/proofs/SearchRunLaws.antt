-- Searches over all calls: at most 16 sizes and 48 probes, and an end near the best size. The driver's `SearchLaws`
-- rest on it.
use Rattle.std.proofs.Common.{◌≡◌, ℕ, ◌^◌, ◌<◌, ◌≤◌, Option, Some, None, true, false, List, [], ◌∷◌, arith, refl, sym, ap, ap₂, ◌∙◌}
use Rattle.std.specs.Prelude.{⊤, ◌||◌, nat_le, is_some, IfSome}
use Rattle.std.specs.Option.{option_map, option_and_then}
use Rattle.std.specs.List.{AllByRecursion}
use Rattle.std.proofs.lemmas.Bool.Decides.{nat_tests}
use Rattle.std.proofs.lemmas.List.Elements.{recursion_from_All}
use Rattle.recovery_mtud.specs.declared.config.MtuDiscoveryConfig.{MtuDiscoveryConfig}
use Rattle.recovery_mtud.specs.declared.search.Probing.{Probing}
use Rattle.recovery_mtud.specs.Search.{MtuSearch, upper_from, search_begun, size_to_probe, probing_on}
use Rattle.recovery_mtud.specs.Bursts.{LossBursts}
use Rattle.recovery_mtud.specs.Discovery.{Discovery, is_searching_of, limit_or_greatest}
use Rattle.recovery_mtud.specs.DiscoveryLog.{MtuCall, polls, acks, is_limited, discovery_after, discovery_by}
use Rattle.recovery_mtud.specs.MtuEntries.{IsFreshDiscovery, search_settings, MtuEntry, unprobed, poll_entry, entry_of, entries_by, MtuProbe, probe_in_flight, limit_in_use, mtu_in_use}
use Rattle.recovery_mtud.specs.SearchRuns.{search_runs, search_of, before_search, next_activation, is_searched, ProbesInSearch, probed_sizes, acked_sizes, lost_sizes, UsesFewProbes, AreLimitsOutside, IsHonest, IsNearBest, EndsNearBest, start_upper}
use Rattle.recovery_mtud.proofs.MtuEntryLaws.{held, Holds, holds_by}
use Rattle.recovery_mtud.proofs.SearchTies.{Narrows, left, narrows_next, Fair, fair_next, fair_end, Within, within_begun, within_next}

-- ---- the entries of a search

-- if none runs, there are none
pub idle_before : (entries : List MtuEntry) → search_runs entries ≡ false → before_search entries ≡ entries
idle_before [] _ = refl
idle_before (_ ∷ _) idle = grind arith

pub idle_search : (entries : List MtuEntry) → search_runs entries ≡ false → search_of entries ≡ []
idle_search [] _ = refl
idle_search (_ ∷ _) idle = grind arith

-- they have the probe in flight
search_probe : (entries : List MtuEntry) → search_runs entries ≡ true
    → probe_in_flight (search_of entries) ≡ probe_in_flight entries
search_probe [] _ = refl
search_probe (_ ∷ earlier) runs = grind (arith, search_probe earlier)

-- ---- the invariant of a phase

-- the minimum change is 3, and the upper bound is a u16
abbrev IsWide : MtuDiscoveryConfig → Type 0
IsWide settings = (3 ≤ settings.minimum_change) × (settings.upper_bound < 2 ^ 16)

module _ (made : Discovery) (link : ℕ) (settings : MtuDiscoveryConfig) where
  -- the upper bound of a search that began after these
  abbrev upper_behind : List MtuEntry → ℕ
  upper_behind before =
      upper_from (mtu_in_use made before) (limit_or_greatest (limit_in_use made before)) settings.upper_bound

  -- a search with these entries, which began after those
  abbrev Searches : ℕ → (before search : List MtuEntry) → Type 0 → ℕ → Probing → Type 0
  Searches further before search outside mtu p =
      Narrows further settings.minimum_change (probed_sizes search) p
      × (outside → mtu_in_use made before ≤ link → AllByRecursion (λ size. size ≤ link) (acked_sizes search)
      → AllByRecursion (λ size. link < size) (lost_sizes search)
      → Fair link (upper_behind before) mtu p)

  abbrev Kept : ℕ → List MtuEntry → ℕ → ℕ → Option Probing → Type 0
  Kept further entries mtu activation None = next_activation settings entries ≡ activation
  Kept further entries mtu activation (Some p) = Within settings (upper_behind (before_search entries)) mtu p
      × (IsWide settings
      → Searches further (before_search entries) (search_of entries) (AreLimitsOutside entries) mtu p)

-- by these settings
abbrev KeptIn : Discovery → ℕ → MtuDiscoveryConfig → ℕ → List MtuEntry → ℕ → Option MtuSearch → Type 0
KeptIn made link settings further entries mtu None = ⊥
KeptIn made link settings further entries mtu (Some search) =
    (search.settings ≡ settings) × Kept made link search.settings further entries mtu search.activation search.probing

module _ (made : Discovery) (link : ℕ) (settings : MtuDiscoveryConfig) where
  -- a search that an entry ends
  abbrev EndsNear : MtuEntry → List MtuEntry → Type 0
  EndsNear (unprobed now) earlier =
      probe_in_flight earlier ≡ None → is_searched settings now earlier ≡ true → IsHonest made link earlier
      → IsNearBest made settings link earlier
  EndsNear other earlier = ⊤

  -- what holds after one more entry
  abbrev Told : ℕ → MtuEntry → List MtuEntry → ℕ → Option MtuSearch → Type 0
  Told further entry entries mtu search = KeptIn made link settings further (entry ∷ entries) mtu search
      × ProbesInSearch settings (entry ∷ entries)
      × (IsWide settings → AreLimitsOutside entries → EndsNear entry entries)

  abbrev Leaves : List MtuEntry → MtuCall → Discovery → Type 0
  Leaves entries call old = let new = discovery_after call old in
      (further : ℕ) × Told further (entry_of call old) entries new.mtu new.search

module _ (made : Discovery) (link : ℕ) (settings : MtuDiscoveryConfig) (entries : List MtuEntry)
    (mtu limit activation : ℕ) (bursts : LossBursts) where
  abbrev search_in : Option Probing → MtuSearch
  search_in probing = record { limit = limit; probing = probing; activation = activation; settings = settings }

  abbrev old : Option Probing → Discovery
  old probing = record { mtu = mtu; search = Some (search_in probing); bursts = bursts }

  -- a poll that ends one
  ends_near : (further : ℕ) (p : Probing) → p.in_flight ≡ None
      → Kept made link settings further entries mtu activation (Some p) → mtu ≡ mtu_in_use made entries
      → size_to_probe settings.minimum_change p ≡ None → IsWide settings → AreLimitsOutside entries
      → IsHonest made link entries → IsNearBest made settings link entries
  ends_near further p empty kept same is wide outside honest =
      let tie = kept.1 wide in
      let fair = tie.1 outside honest.start (recursion_from_All (λ size. size ≤ link) _ honest.acked)
      (recursion_from_All (λ size. link < size) _ honest.lost) in
      let near = fair_end _ _ _ _ further _ p wide.0 empty is tie.0 fair in
      record { carried = omega arith; near = omega arith }

  -- a poll that continues one
  extends : (further now next : ℕ) (probing : Option Probing) (p : Probing) → p.in_flight ≡ None
      → Kept made link settings further entries mtu activation (Some p) → mtu ≡ mtu_in_use made entries
      → probe_in_flight entries ≡ None → is_searched settings now entries ≡ true
      → (answer : Option ℕ) → size_to_probe settings.minimum_change p ≡ answer
      → Told made link settings (left further p) (poll_entry now next answer) entries mtu
      (Some (probing_on now next (search_in probing) p answer))
  extends further _ _ _ p empty kept same quiet searched None is =
      let ends = ends_near further p empty kept same is in grind arith
  extends _ _ next _ p empty kept _ quiet searched (Some size) is = (
    (
      refl,
      (
        within_next settings _ mtu next size p kept.0 is,
        λ wide. (
          narrows_next _ _ next size _ p wide.0 empty is (kept.1 wide).0,
          λ outside start good bad. fair_next _ _ _ _ next size p empty is ((kept.1 wide).1 outside start good bad),
        ),
      ),
    ),
    (quiet, searched),
    λ wide outside. tt,
  )

  -- a poll that begins a search
  fresh_kept : Holds made entries (old None) → search_runs entries ≡ false
      → Kept made link settings 16 entries mtu activation (Some (search_begun mtu (search_in None)))
  fresh_kept holds idle =
      let within = within_begun mtu (search_in None) in
      let bound = ap₂ (λ (m : ℕ) (l : Option ℕ). upper_from m (limit_or_greatest l) settings.upper_bound)
      holds.mtu holds.limit ∙ ap (upper_behind made link settings) (sym (idle_before entries idle)) in (
        grind arith,
        grind (arith, idle_before entries idle, idle_search entries idle),
      )

  searching : (further : ℕ) (call : MtuCall) (p : Probing) (flight : Option ℕ)
      → (let probing = Some (record p { in_flight = flight }) in
      Holds made entries (old probing) → Kept made link settings further entries mtu activation probing
      → Leaves made link settings entries call (old probing))
  searching further (polls now next) p None holds kept = (
    left further p,
    extends further now next (Some (record p { in_flight = None }))
        (record p { in_flight = None }) refl kept holds.mtu (sym holds.probe)
        (ap (λ b. b || nat_le (next_activation settings entries) now) (sym holds.runs)) _ refl,
  )
  searching further call p None holds kept = (further, grind (arith, nat_tests, sym holds.runs))
  searching further (acks number bytes) p (Some own) holds kept =
      (further, grind (arith, nat_tests, sym holds.runs, sym holds.probe, search_probe entries))
  searching further call p (Some own) holds kept =
      (further, grind (arith, nat_tests, sym holds.runs, sym holds.probe, search_probe entries))

  told : (further : ℕ) (call : MtuCall) (probing : Option Probing) → Holds made entries (old probing)
      → Kept made link settings further entries mtu activation probing
      → Leaves made link settings entries call (old probing)
  told further call (Some p) = searching further call p p.in_flight
  told further (polls now next) None = λ holds kept. (
      let fresh = search_begun mtu (search_in None) in
      let found = extends 16 now next None fresh refl (fresh_kept holds (sym holds.runs)) in
      (left 16 fresh, grind (arith, nat_tests, found))
      )
  told further call None = λ holds kept. (further, grind (arith, nat_tests))

-- ---- all calls

module _ (made : Discovery) (link : ℕ) (settings : MtuDiscoveryConfig) (new : IsFreshDiscovery made)
    (is : search_settings made ≡ Some settings) where
  kept_first : (search : Option MtuSearch) → IfSome search (λ own. (own.probing ≡ None) × (own.activation ≡ 0))
      → option_map (λ own. own.settings) search ≡ Some settings → KeptIn made link settings 0 [] made.mtu search
  kept_first None _ is = absurd (cc)
  kept_first (Some search) initial is = grind arith

  told_next : (further : ℕ) (call : MtuCall) (entries : List MtuEntry) (old : Discovery) (search : Option MtuSearch)
      → (let old' : Discovery = record old { search = search } in
      Holds made entries old' → KeptIn made link settings further entries old.mtu search
      → Leaves made link settings entries call old')
  told_next further call entries old None holds kept = absurd kept
  told_next further call entries old (Some search) holds kept =
      rw (← kept.0)
      (told made link search.settings entries old.mtu search.limit search.activation old.bursts further call
      search.probing holds kept.1)

  abbrev KeptBy : List MtuCall → Type 0
  KeptBy calls = let now = discovery_by made calls in
      (further : ℕ) × KeptIn made link settings further (entries_by made calls) now.mtu now.search

  told_by : (call : MtuCall) (earlier : List MtuCall) → KeptBy earlier
      → Leaves made link settings (entries_by made earlier) call (discovery_by made earlier)
  told_by call earlier kept =
      let old = discovery_by made earlier in
      told_next kept.0 call (entries_by made earlier) old old.search (holds_by made new earlier) kept.1

  kept_by : (calls : List MtuCall) → KeptBy calls
  kept_by [] = (0, kept_first made.search new.search is)
  kept_by (call ∷ earlier) = let told = told_by call earlier (kept_by earlier) in (told.0, told.1.0)

-- ---- what follows for all entries

few_in : (made : Discovery) (settings : MtuDiscoveryConfig) → IsWide settings → (further : ℕ) (entries : List MtuEntry)
    (mtu : ℕ) (search : Option MtuSearch)
    → is_some (option_and_then (λ own. own.probing) search) ≡ search_runs entries
    → KeptIn made 0 settings further entries mtu search → UsesFewProbes entries
few_in made settings wide further entries mtu search runs kept =
    grind (arith, idle_search entries)

near_all : (made : Discovery) (settings : MtuDiscoveryConfig) (entry : MtuEntry) (entries : List MtuEntry)
    → AreLimitsOutside (entry ∷ entries)
    → ((link : ℕ) → AreLimitsOutside entries → EndsNear made link settings entry entries)
    → EndsNearBest made settings (entry ∷ entries)
near_all _ _ (unprobed _) _ outside near = λ quiet searched link. near link outside quiet searched
near_all _ _ _ _ _ _ = tt

-- ---- limits that are reported outside searches

-- a call reports no limit to a discovery that searches
abbrev pub IsInTurn : MtuCall → Discovery → Type 0
IsInTurn (is_limited limit) old = is_searching_of old ≡ false
IsInTurn call old = ⊤

-- if each limit is reported outside searches, none is while a search runs
pub limits_outside_after : (made : Discovery) → IsFreshDiscovery made → (call : MtuCall) (earlier : List MtuCall)
    → IsInTurn call (discovery_by made earlier)
    → AreLimitsOutside (entries_by made earlier) → AreLimitsOutside (entries_by made (call ∷ earlier))
limits_outside_after made _ (polls now next) earlier _ outside = grind arith
limits_outside_after made new _ earlier turn outside =
    let runs = (holds_by _ new earlier).runs in grind arith

-- ---- the probe in flight

abbrev IsBetween : Discovery → MtuDiscoveryConfig → List MtuEntry → ℕ → ℕ → Type 0
IsBetween made settings entries mtu size =
    (size ≤ start_upper made settings entries)
    × (3 ≤ settings.minimum_change → (mtu < size) × (size ≤ settings.upper_bound))

between : (made : Discovery) (settings : MtuDiscoveryConfig) (further : ℕ) (entries : List MtuEntry) (mtu : ℕ)
    (probe : MtuProbe) (search : Option MtuSearch) → held search ≡ Some probe
    → KeptIn made 0 settings further entries mtu search → IsBetween made settings entries mtu probe.size
between made settings further entries mtu probe search flies kept = grind arith

-- ---- the promises over all calls

-- the MTU in use is the one that the entries say
pub mtu_by : (made : Discovery) → IsFreshDiscovery made → (calls : List MtuCall)
    → (discovery_by made calls).mtu ≡ mtu_in_use made (entries_by made calls)
mtu_by made new calls = (holds_by _ new calls).mtu

-- a search runs exactly if the entries say so
pub search_runs_by : (made : Discovery) → IsFreshDiscovery made → (calls : List MtuCall)
    → is_searching_of (discovery_by made calls) ≡ search_runs (entries_by made calls)
search_runs_by made new calls = (holds_by _ new calls).runs

module _ (made : Discovery) (settings : MtuDiscoveryConfig) (new : IsFreshDiscovery made)
    (is : search_settings made ≡ Some settings) where
  -- at any time the search that runs has probed at most 16 sizes with at most 48 probes
  pub search_takes_few : 3 ≤ settings.minimum_change → settings.upper_bound < 2 ^ 16 → (calls : List MtuCall)
      → UsesFewProbes (entries_by made calls)
  search_takes_few change bound calls =
      let kept = kept_by made 0 settings new is calls in
      few_in made settings (change, bound) kept.0 (entries_by made calls) _ _ (holds_by made new calls).runs kept.1

  -- a search that ends by a poll ends near the best size
  pub search_ends_near : 3 ≤ settings.minimum_change → settings.upper_bound < 2 ^ 16 → (calls : List MtuCall)
      → AreLimitsOutside (entries_by made calls) → EndsNearBest made settings (entries_by made calls)
  search_ends_near change bound [] outside = tt
  search_ends_near change bound (call ∷ earlier) outside =
      near_all made settings (entry_of call (discovery_by made earlier)) (entries_by made earlier) outside
      (λ link. (told_by made link settings new is call earlier (kept_by made link settings new is earlier)).1.2
      (change, bound))

  -- a probe is sent only in a search, while none is in flight
  pub probes_in_search : (calls : List MtuCall) → ProbesInSearch settings (entries_by made calls)
  probes_in_search [] = tt
  probes_in_search (call ∷ earlier) =
      (told_by made 0 settings new is call earlier (kept_by made 0 settings new is earlier)).1.1

  -- the probe in flight is within the bounds of its search, and above the MTU in use
  pub flight_within : (calls : List MtuCall) (probe : MtuProbe) → probe_in_flight (entries_by made calls) ≡ Some probe
      → IsBetween made settings (entries_by made calls) (mtu_in_use made (entries_by made calls)) probe.size
  flight_within calls probe flies =
      let holds = holds_by made new calls in
      let kept = kept_by made 0 settings new is calls in
      let now = discovery_by made calls in
      grind (
        arith,
        holds.mtu,
        between made settings kept.0 (entries_by made calls) now.mtu probe now.search (holds.probe ∙ flies) kept.1,
      )
