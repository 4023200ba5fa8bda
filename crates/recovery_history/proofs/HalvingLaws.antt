-- The size of each probe of a search is the one that the history says, as its entries and the state of a discovery say:
-- the clause `bisection` of `run`.
use Rattle.std.proofs.lemmas.Bool.Decides.{nat_tests}
use Rattle.std.proofs.lemmas.Option.{none-some, same_Some}
use Rattle.std.proofs.Common.{◌≡◌, ℕ, ◌+◌, ◌≤◌, ◌||◌, nat_le, min, Option, Some, None, Bool, true, false, List, [], ◌∷◌, arith, refl, sym, ap, ap₂, subst, ◌∙◌, Ok}
use Rattle.std.specs.Prelude.{IfSome, IsSomeAnd, is_some, if◌then◌else◌}
use Rattle.recovery_config.specs.Settings.{initial_mtu_of}
use Rattle.recovery_mtud.specs.declared.config.MtuDiscoveryConfig.{MtuDiscoveryConfig}
use Rattle.recovery_mtud.specs.declared.search.Probing.{Probing}
use Rattle.recovery_mtud.specs.Search.{MtuSearch, narrowed, probing_on, repeats, search_begun, search_poll, size_to_probe, upper_from}
use Rattle.recovery_mtud.specs.Bursts.{LossBursts}
use Rattle.recovery_mtud.specs.Discovery.{Discovery, limit_or_greatest, poll_of}
use Rattle.recovery_mtud.specs.DiscoveryLog.{MtuCall, polls, discovery_after, discovery_by}
use Rattle.recovery_mtud.specs.MtuEntries.{IsFreshDiscovery, MtuEntry, entries_by, entry_of, limit_in_use, mtu_in_use as by_entries, poll_entry, probe_in_flight, probed as goes_out, search_settings}
use Rattle.recovery_mtud.specs.SearchRuns.{AreLimitsOutside, ProbesInSearch, is_searched, lost_sizes, next_activation, probed_sizes, search_of, search_runs, start_upper}
use Rattle.recovery_mtud.proofs.MtuEntryLaws.{Holds, holds_by}
use Rattle.recovery_mtud.proofs.SearchRunLaws.{idle_before, idle_search}
use Rattle.recovery_paths.specs.PathLog.{PathHistory}
use Rattle.recovery_events.specs.declared.event.Event.TheVariants.{PollMtu}
use Rattle.recovery_events.specs.declared.event.Answer.TheVariants as answer
use Rattle.recovery_history.specs.RepliesAfter.{pasts_of, inputs_after}
use Rattle.recovery_history.specs.ReplyInputs.{ReplyInputs}
use Rattle.recovery_history.specs.PartReplies.{MtuProbeReply}
use Rattle.recovery_history.specs.History.{Beginning, History}
use Rattle.recovery_history.specs.Search.{discovery_settings}
use Rattle.recovery_history.specs.Promises.Halving.{HalvesSizes, may_pass, next_size, size_after}
use Rattle.recovery_history.specs.Promises.ProbeCount.{sizes_probed}
use Rattle.recovery_history.specs.Promises.Mtu.{mtu, mtu_in_use}
use Rattle.recovery_history.specs.Promises.Probes.{last_probe, runs}
use Rattle.recovery_history.specs.Promises.ProbesPerSize.{tries}
use Rattle.recovery_history.specs.Table.{limit}
use Rattle.recovery_history.proofs.MadeLaws.{made_in}
use Rattle.recovery_history.proofs.ConvergenceLaws.{Kept, kept_by, kept_first, runs_same, upper_is}
use Rattle.recovery_history.proofs.Runs.{AllAlong}
use Rattle.recovery_history.proofs.SearchLaws.{AreSearched}
use Rattle.recovery_history.proofs.SearchSaid.{entered_so_far, Follows}
use Rattle.recovery_history.proofs.SearchSteps.{Facts, throughout_facts}
use Rattle.recovery_history.proofs.ProbesPerSizeLaws as few
use Rattle.recovery_history.proofs.ProbesPerSizeLaws.{Tries, flying, tried, other_is_new, other_within}

-- ---- the state of a search that runs: its bounds are what gets through, and what may

-- the first of these sizes, or another one
abbrev last_or : ℕ → List ℕ → ℕ
last_or other [] = other
last_or other (size ∷ sizes) = size

-- the next size, by what gets through, the bound, and the sizes probed and lost
abbrev size_by : ℕ → ℕ → ℕ → List ℕ → List ℕ → Option ℕ
size_by change through bound probed lost =
    let last = last_or through probed in size_after change through (may_pass bound lost) last (tries last lost)

pub record Halves (through bound limit : ℕ) (probed lost : List ℕ) (p : Probing) : Type 0 where
  pub most : (narrowed p).upper ≡ may_pass bound lost
  pub small : p.upper ≤ limit
  pub lower : 1 ≤ tried p → (p.lower ≡ through) × (tries p.last lost ≡ p.losses)
  pub got : tried p ≡ 0 → p.last ≡ through
  pub last : last_or through probed ≡ p.last
  pub few : (n : ℕ) → tries n lost ≤ tries n probed

module _ (change through bound limit : ℕ) (probed lost : List ℕ) (p : Probing) (wide : 3 ≤ change)
    (here : Halves through bound limit probed lost p) (known : Tries probed p) where
  -- it finds the next size
  finds : p.in_flight ≡ None → size_to_probe change p ≡ size_by change through bound probed lost
  finds empty = go (repeats p) refl
    where
      go : (b : Bool) → repeats p ≡ b → size_to_probe change p ≡ size_by change through bound probed lost
      go true same = grind (arith, nat_tests, same, empty, here, known.within, known.above)
      go false same = grind (arith, nat_tests, same, empty, here, known.within, known.above, wide)

  -- a probe is sent
  goes : (number size : ℕ) → p.in_flight ≡ None → size_to_probe change p ≡ Some size
      → Halves through bound limit (size ∷ probed) lost (record (narrowed p) { in_flight = Some number; last = size })
  goes number size empty is = go (repeats p) refl
    where
      go : (b : Bool) → repeats p ≡ b → Halves through bound limit (size ∷ probed) lost
          (record (narrowed p) { in_flight = Some number; last = size })
      go true same = grind (arith, nat_tests, same, is, empty, here, known.within, known.above)
      go false same =
          let new = other_is_new change size probed p known wide empty same is in
          let most = here.few size in
          grind (arith, nat_tests, same, is, empty, here, known.within, known.above, new, most)

  -- it gets through
  acks : (own : ℕ) → p.in_flight ≡ Some own
      → Halves (min p.last limit) bound limit probed lost (record p { in_flight = None; losses = 0 })
  acks own flies = grind (arith, nat_tests, flies, here, known.within, known.above)

  -- it is lost
  loses : (own : ℕ) → p.in_flight ≡ Some own
      → Halves through bound limit probed (p.last ∷ lost) (record p { in_flight = None; losses = p.losses + 1 })
  loses own flies = grind (arith, nat_tests, flies, here, known.within, known.above, known.last)

-- it begins
begins : (mtu : ℕ) (search : MtuSearch) → Halves (min mtu search.limit)
    (upper_from mtu search.limit search.settings.upper_bound) search.limit [] [] (search_begun mtu search)
begins mtu search = grind arith

-- ---- what a call leaves

-- if no limit was reported while it ran; if none runs, the next one begins when the entries say
abbrev Tied : Discovery → MtuDiscoveryConfig → List MtuEntry → ℕ → ℕ → ℕ → Option Probing → Type 0
Tied made settings entries mtu limit activation None = next_activation settings entries ≡ activation
Tied made settings entries mtu limit activation (Some p) = AreLimitsOutside entries
    → Halves (min mtu limit) (start_upper made settings entries) limit (probed_sizes (search_of entries))
    (lost_sizes (search_of entries)) p

abbrev TiedIn : Discovery → List MtuEntry → ℕ → Option MtuSearch → Type 0
TiedIn made entries mtu None = Unit {0}
TiedIn made entries mtu (Some search) =
    Tied made search.settings entries mtu search.limit search.activation search.probing

-- the entries of a search that runs have the probe in flight
flown : (entries : List MtuEntry) → search_runs entries ≡ true
    → probe_in_flight (search_of entries) ≡ probe_in_flight entries
flown [] runs = refl
flown (entry ∷ earlier) runs = grind (arith, flown earlier)

module _ (made : Discovery) (settings : MtuDiscoveryConfig) (wide : 3 ≤ settings.minimum_change)
    (entries : List MtuEntry) (mtu limit activation : ℕ) (bursts : LossBursts) where
  abbrev search_in : Option Probing → MtuSearch
  search_in probing = record { limit = limit; probing = probing; activation = activation; settings = settings }

  abbrev old : Option Probing → Discovery
  old probing = record { mtu = mtu; search = Some (search_in probing); bursts = bursts }

  abbrev Leaves : MtuCall → Option Probing → Type 0
  Leaves call probing =
      let after = discovery_after call (old probing) in
      TiedIn made (entry_of call (old probing) ∷ entries) after.mtu after.search

  abbrev HalvesNow : Probing → Type 0
  HalvesNow p = AreLimitsOutside entries → Halves (min mtu limit) (start_upper made settings entries) limit
      (probed_sizes (search_of entries)) (lost_sizes (search_of entries)) p

  -- a poll that continues a search
  extends : (now number : ℕ) (probing : Option Probing) (p : Probing) → p.in_flight ≡ None → HalvesNow p
      → Tries (probed_sizes (search_of entries)) p → probe_in_flight entries ≡ None
      → is_searched settings now entries ≡ true → (answer : Option ℕ)
      → size_to_probe settings.minimum_change p ≡ answer
      → TiedIn made (poll_entry now number answer ∷ entries) mtu
      (Some (probing_on now number (search_in probing) p answer))
  extends now number probing p empty here known quiet searched None is = grind (arith, quiet, searched)
  extends now number probing p empty here known quiet searched (Some size) is = λ outside.
      goes settings.minimum_change (min mtu limit) (start_upper made settings entries) limit
      (probed_sizes (search_of entries)) (lost_sizes (search_of entries)) p wide (here outside) known number size
      empty is

  -- a search that begins
  fresh : Holds made entries (old None) → search_runs entries ≡ false → HalvesNow (search_begun mtu (search_in None))
  fresh holds idle = λ outside. grind (
    arith,
    idle_before entries idle,
    idle_search entries idle,
    holds.mtu,
    holds.limit,
    begins mtu (search_in None),
  )

  fresh_tries : search_runs entries ≡ false
      → Tries (probed_sizes (search_of entries)) (search_begun mtu (search_in None))
  fresh_tries idle = rw (idle_search entries idle) (grind arith)

  searching : (call : MtuCall) (p : Probing) (flight : Option ℕ)
      → (let probing = Some (record p { in_flight = flight }) in
      Holds made entries (old probing) → HalvesNow (record p { in_flight = flight })
      → Tries (probed_sizes (search_of entries)) (record p { in_flight = flight }) → Leaves call probing)
  searching (polls now number) p None holds here known =
      extends now number (Some (record p { in_flight = None })) (record p { in_flight = None }) refl here known
      (sym holds.probe) (ap (λ b. b || nat_le (next_activation settings entries) now) (sym holds.runs)) _ refl
  searching call p None holds here known =
      grind (arith, nat_tests, sym holds.runs, sym holds.probe, here, flown entries)
  searching call p (Some own) holds here known =
      let flies : Probing = record p { in_flight = Some own } in
      let acked : AreLimitsOutside entries → Halves (min p.last limit) (start_upper made settings entries) limit
      (probed_sizes (search_of entries)) (lost_sizes (search_of entries))
      (record p { in_flight = None; losses = 0 }) =
      λ outside. acks settings.minimum_change (min mtu limit) (start_upper made settings entries) limit
      (probed_sizes (search_of entries)) (lost_sizes (search_of entries)) flies wide (here outside) known own refl
      in
      let gone : AreLimitsOutside entries → Halves (min mtu limit) (start_upper made settings entries) limit
      (probed_sizes (search_of entries)) (p.last ∷ lost_sizes (search_of entries))
      (record p { in_flight = None; losses = p.losses + 1 }) =
      λ outside. loses settings.minimum_change (min mtu limit) (start_upper made settings entries) limit
      (probed_sizes (search_of entries)) (lost_sizes (search_of entries)) flies wide (here outside) known own refl
      in
      grind (
        arith,
        nat_tests,
        sym holds.runs,
        sym holds.probe,
        here,
        acked,
        gone,
        flown entries,
      )

  leaves : (call : MtuCall) (probing : Option Probing) → Holds made entries (old probing)
      → Tied made settings entries mtu limit activation probing → few.Tied entries probing → Leaves call probing
  leaves call (Some p) holds here known = searching call p p.in_flight holds here known
  leaves (polls now number) None holds here known =
      let idle = sym holds.runs in
      let begun = search_begun mtu (search_in None) in
      let found : search_runs entries ≡ false → is_searched settings now entries ≡ true
      → TiedIn made (poll_entry now number (size_to_probe settings.minimum_change begun) ∷ entries) mtu
      (Some (probing_on now number (search_in None) begun (size_to_probe settings.minimum_change begun))) =
      λ idle searched. extends now number None begun refl (fresh holds idle) (fresh_tries idle) (sym holds.probe)
      searched _ refl in
      grind (arith, nat_tests, here, idle, found, sym holds.probe)
  leaves call None holds here known = grind (arith, nat_tests, here, sym holds.runs, sym holds.probe)

  -- ---- what a poll finds, in a search that runs or is due, with no probe in flight

  abbrev next_now : Option ℕ
  next_now = size_by settings.minimum_change (min mtu limit) (start_upper made settings entries)
      (probed_sizes (search_of entries)) (lost_sizes (search_of entries))

  found : (p : Probing) → HalvesNow p → Tries (probed_sizes (search_of entries)) p → AreLimitsOutside entries
      → p.in_flight ≡ None → size_to_probe settings.minimum_change p ≡ next_now
  found p here known outside empty =
      finds settings.minimum_change (min mtu limit) (start_upper made settings entries) limit
      (probed_sizes (search_of entries)) (lost_sizes (search_of entries)) p wide (here outside) known empty

  running : (now : ℕ) (p : Probing) (flight : Option ℕ)
      → (let probing = Some (record p { in_flight = flight }) in
      Holds made entries (old probing) → HalvesNow (record p { in_flight = flight })
      → Tries (probed_sizes (search_of entries)) (record p { in_flight = flight }) → AreLimitsOutside entries
      → probe_in_flight entries ≡ None → search_poll mtu now (search_in probing) ≡ next_now)
  running now p None holds here known outside quiet = found (record p { in_flight = None }) here known outside refl
  running now p (Some own) holds here known outside quiet = let probe = holds.probe in cc

  due : (now : ℕ) (probing : Option Probing) → Holds made entries (old probing)
      → Tied made settings entries mtu limit activation probing → few.Tied entries probing → AreLimitsOutside entries
      → probe_in_flight entries ≡ None → is_searched settings now entries ≡ true
      → search_poll mtu now (search_in probing) ≡ next_now
  due now (Some p) holds here known outside quiet searched =
      running now p p.in_flight holds here known outside quiet
  due now None holds here known outside quiet searched =
      let begun = found (search_begun mtu (search_in None)) (fresh holds (sym holds.runs))
      (fresh_tries (sym holds.runs)) outside refl in
      grind (arith, nat_tests, here, sym holds.runs, searched, begun)

-- ---- all calls

-- the next size by the entries
abbrev next_by : Discovery → MtuDiscoveryConfig → List MtuEntry → Option ℕ
next_by made settings entries =
    size_by settings.minimum_change (min (by_entries made entries) (limit_or_greatest (limit_in_use made entries)))
    (start_upper made settings entries) (probed_sizes (search_of entries)) (lost_sizes (search_of entries))

module _ (made : Discovery) (settings : MtuDiscoveryConfig) (new : IsFreshDiscovery made)
    (is : search_settings made ≡ Some settings) (wide : 3 ≤ settings.minimum_change) where
  first : (search : Option MtuSearch) → IfSome search (λ own. (own.probing ≡ None) × (own.activation ≡ 0))
      → TiedIn made [] made.mtu search
  first None initial = tt
  first (Some own) initial = rw (initial.0, initial.1) refl

  step : (call : MtuCall) (entries : List MtuEntry) (old : Discovery) (search : Option MtuSearch)
      → (let now : Discovery = record old { search = search } in
      let after = discovery_after call now in
      Holds made entries now → search_settings now ≡ Some settings → TiedIn made entries old.mtu search
      → few.Tied entries (few.probing_of now) → TiedIn made (entry_of call now ∷ entries) after.mtu after.search)
  step call entries old None holds same here known = absurd (none-some settings same)
  step call entries old (Some search) holds same here known =
      let own = same_Some search.settings settings same in
      leaves made search.settings (rw own wide) entries old.mtu search.limit search.activation old.bursts call
      search.probing holds here known

  tied_by : (calls : List MtuCall)
      → (let now = discovery_by made calls in TiedIn made (entries_by made calls) now.mtu now.search)
  tied_by [] = first made.search new.search
  tied_by (call ∷ earlier) =
      let old = discovery_by made earlier in
      let known = few.kept_by made settings new is wide earlier in
      step call (entries_by made earlier) old old.search (holds_by made new earlier) known.0 (tied_by earlier) known.1

  found_in : (now : ℕ) (entries : List MtuEntry) (old : Discovery) (search : Option MtuSearch)
      → (let held : Discovery = record old { search = search } in
      Holds made entries held → search_settings held ≡ Some settings → TiedIn made entries old.mtu search
      → few.Tied entries (few.probing_of held) → AreLimitsOutside entries → probe_in_flight entries ≡ None
      → is_searched settings now entries ≡ true → poll_of now held ≡ next_by made settings entries)
  found_in now entries old None holds same here known outside quiet searched = absurd (none-some settings same)
  found_in now entries old (Some search) holds same here known outside quiet searched =
      let own = same_Some search.settings settings same in
      let found = due made search.settings (rw own wide) entries old.mtu search.limit search.activation old.bursts now
      search.probing holds here known outside quiet (rw own searched) in
      grind (arith, found, own, holds.mtu, holds.limit)

  -- a poll of a search that runs or is due finds it
  pub polled : (calls : List MtuCall) (now : ℕ) → AreLimitsOutside (entries_by made calls)
      → probe_in_flight (entries_by made calls) ≡ None → is_searched settings now (entries_by made calls) ≡ true
      → poll_of now (discovery_by made calls) ≡ next_by made settings (entries_by made calls)
  polled calls now =
      let old = discovery_by made calls in
      let known = few.kept_by made settings new is wide calls in
      found_in now (entries_by made calls) old old.search (holds_by made new calls) known.0 (tied_by calls) known.1

-- ---- throughout a run

-- equal sizes have equal results
alike : (change through other bound most last : ℕ) (probed lost gone : List ℕ) → through ≡ other → bound ≡ most
    → lost ≡ gone → last ≡ last_or other probed
    → size_after change through (may_pass bound lost) last (tries last lost)
    ≡ size_by change other most probed gone
alike change through other bound most last probed lost gone one two three four = rw (one, two, three, four) refl

-- so a search follows the settings
in_search : (settings : MtuDiscoveryConfig) (entries : List MtuEntry) (by : Option MtuDiscoveryConfig)
    → by ≡ Some settings → IsSomeAnd by (λ own. ProbesInSearch own entries) → ProbesInSearch settings entries
in_search settings entries None is turn = absurd turn
in_search settings entries (Some own) is turn =
    subst (λ own. ProbesInSearch own entries) (same_Some own settings is) turn

-- the first size of a search that runs is that of the probe that was sent last
first_is_last : {Q S M P : Type 0} (history : History Q S M P)
    → last_or (last_probe history).1 (sizes_probed history) ≡ (last_probe history).1
first_is_last [] = refl
first_is_last ((PollMtu now, Ok (answer.Probe number size)) ∷ earlier) = refl
first_is_last (happened ∷ earlier) = grind (arith, first_is_last earlier)

-- so it is if there is one
last_is : {Q S M P : Type 0} (history : History Q S M P) (through : ℕ) (sizes : List ℕ) → sizes_probed history ≡ sizes
    → (if runs history then (last_probe history).1 else through) ≡ last_or through sizes
last_is history through [] is = grind (arith, is)
last_is history through (size ∷ sizes) is = grind (arith, is, first_is_last history)

module _ {F K Q S M P : Type 0} (beginning : Beginning F K Q S M P) where
  abbrev past_in : History Q S M P → PathHistory K
  past_in history = (pasts_of beginning history).current

  module _ (history : History Q S M P) (settings : MtuDiscoveryConfig)
      (is : discovery_settings beginning ≡ Some settings) (kept : Kept beginning history) where
    mtu_same : mtu_in_use beginning history ≡ by_entries (made_in beginning history) (entered_so_far beginning history)
    mtu_same =
        let config = beginning.config.transport in
        ap (λ (by : Option MtuDiscoveryConfig). mtu (is_some by) (initial_mtu_of config) config.min_mtu history) is
        ∙ (kept.searched settings is).tied.1

    -- the next size by the history is the next size by the entries
    next_same : next_size beginning settings history
        ≡ next_by (made_in beginning history) settings (entered_so_far beginning history)
    next_same =
        let searched = kept.searched settings is in
        let limits : limit_or_greatest (limit history)
        ≡ limit_or_greatest (limit_in_use (made_in beginning history) (entered_so_far beginning history)) =
        sym (ap limit_or_greatest searched.tied.0) in
        let through = ap₂ min mtu_same limits in
        let probed = probed_sizes (search_of (entered_so_far beginning history)) in
        let bound = sym (upper_is beginning settings is history searched) in
        alike settings.minimum_change _ _ _ _ _ probed _ _ through bound searched.tied.4
        (last_is history _ probed kept.few.1 ∙ ap (λ t. last_or t probed) through)

    -- and what a poll finds then
    polls_it : (searched : AreSearched beginning history) → 3 ≤ settings.minimum_change → (now : ℕ)
        → probe_in_flight (entered_so_far beginning history) ≡ None
        → is_searched settings now (entered_so_far beginning history) ≡ true
        → poll_of now (inputs_after beginning history).paths.current.state.discovery
        ≡ next_size beginning settings history
    polls_it searched wide now quiet due =
        polled (past_in history).kept.discovery settings searched.0.untold (searched.0.settings_are ∙ is) wide
        (past_in history).searched now (kept.searched settings is).tied.5 quiet due ∙ sym next_same

  -- the reply to a poll is what it finds
  module _ (known : ReplyInputs K P M) (now : ℕ) where
    told_probe : (found : Option ℕ) (number size : ℕ)
        → MtuProbeReply beginning.queue known now found (Ok (answer.Probe number size)) → found ≡ Some size
    told_probe None number size told = absurd (cc)
    told_probe (Some own) number size told = let same = told.1 in cc

    told_none : (found : Option ℕ) → MtuProbeReply beginning.queue known now found (Ok answer.NoProbe) → found ≡ None
    told_none None told = refl
    told_none (Some own) told = let same = told.1 in cc

  halves_one : Follows (Facts beginning) (Kept beginning) (HalvesSizes beginning)
  halves_one history (PollMtu now) (Ok (answer.Probe number size)) known kept = λ settings is wide. (
      let inside = in_search settings (goes_out now number size ∷ entered_so_far beginning history) _ is known.turn in
      sym (polls_it history settings is kept known.searched wide now inside.0 inside.1)
      ∙ told_probe (inputs_after beginning history) now _ number size known.told.1.1
      )
  halves_one history (PollMtu now) (Ok answer.NoProbe) known kept = λ settings is wide quiet due. (
      let entries = entered_so_far beginning history in
      let searched = ap₂ (λ (r : Bool) (n : ℕ). r || nat_le n now) (sym (runs_same history entries kept.few))
      (sym (kept.searched settings is).tied.2) ∙ due in
      let few = kept.few in
      sym (polls_it history settings is kept known.searched wide now (grind (arith, quiet, few.0)) searched)
      ∙ told_none (inputs_after beginning history) now _ known.told.1.1
      )
  halves_one history event reply known kept = tt

  pub halves_told : AllAlong beginning (HalvesSizes beginning)
  halves_told = throughout_facts beginning (Kept beginning) (kept_by beginning) (kept_first beginning) halves_one
