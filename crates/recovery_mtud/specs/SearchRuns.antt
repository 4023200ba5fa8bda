-- MTU searches over all calls and answers of a discovery (RFC 8899, 5; RFC 9000, 14.3). Every list here has the newest
-- entry first.
use Rattle.std.specs.Prelude.{◌≡◌, ℕ, ◌+◌, ◌*◌, ◌≤◌, ◌<◌, nat_le, nat_eq, min, ⊤, Bool, true, false, ◌&&◌, ◌||◌, not, if◌then◌else◌, None, is_none, List, [], ◌∷◌, ◌++◌, length, option_to_list, All}
use Rattle.std.specs.Option.{option_map}
use Rattle.std.specs.Set.{distinct_count}
use Rattle.recovery_mtud.specs.declared.config.MtuDiscoveryConfig.{MtuDiscoveryConfig}
use Rattle.recovery_mtud.specs.Search.{later, upper_from, size_budget, probe_budget}
use Rattle.recovery_mtud.specs.Discovery.{Discovery, limit_or_greatest}
use Rattle.recovery_mtud.specs.MtuEntries.{MtuEntry, probed, unprobed, limited, acked, probe_lost, reported, reset, probe_in_flight, size_at, limit_in_use, mtu_in_use}

-- ---- when a search runs

-- a search ends by a poll that returns no probe while none is in flight, by a report or by a reset
abbrev pub ends_search : MtuEntry → List MtuEntry → Bool
ends_search (unprobed now) earlier = is_none (probe_in_flight earlier)
ends_search (reported now) earlier = true
ends_search (reset mtu min_mtu) earlier = true
ends_search entry earlier = false

-- one runs from its first probe until it ends
abbrev pub search_runs : List MtuEntry → Bool
search_runs [] = false
search_runs (probed now number size ∷ earlier) = true
search_runs (entry ∷ earlier) = not (ends_search entry earlier) && search_runs earlier

-- the entries of the search that runs
abbrev pub search_of : List MtuEntry → List MtuEntry
search_of [] = []
search_of (entry ∷ earlier) = if search_runs (entry ∷ earlier) then entry ∷ search_of earlier else []

-- the entries before it
abbrev pub before_search : List MtuEntry → List MtuEntry
before_search [] = []
before_search (entry ∷ earlier) = if search_runs (entry ∷ earlier) then before_search earlier else entry ∷ earlier

-- ---- when a search begins

module _ (settings : MtuDiscoveryConfig) where
  -- when a search may begin: immediately at first; then the interval after the poll that ended a search, or the
  -- cooldown after a report, whichever was last
  abbrev pub next_activation : List MtuEntry → ℕ
  next_activation [] = 0
  next_activation (unprobed now ∷ earlier) =
      let last = next_activation earlier in
      if is_none (probe_in_flight earlier) && (search_runs earlier || nat_le last now)
      then later now settings.interval else last
  next_activation (reported now ∷ earlier) = later now settings.black_hole_cooldown
  next_activation (reset mtu min_mtu ∷ earlier) = 0
  next_activation (entry ∷ earlier) = next_activation earlier

  -- a poll continues a search that runs, or begins one that is due
  abbrev pub is_searched : ℕ → List MtuEntry → Bool
  is_searched now earlier = search_runs earlier || nat_le (next_activation earlier) now

  -- a probe is sent only in a search, while none is in flight
  abbrev pub ProbesInSearch : List MtuEntry → Type 0
  ProbesInSearch [] = ⊤
  ProbesInSearch (probed now number size ∷ earlier) =
      (probe_in_flight earlier ≡ None) × (is_searched now earlier ≡ true)
  ProbesInSearch (entry ∷ earlier) = ⊤

-- ---- the probes of a search, by its entries

abbrev pub probed_sizes : List MtuEntry → List ℕ
probed_sizes [] = []
probed_sizes (probed now number size ∷ earlier) = size ∷ probed_sizes earlier
probed_sizes (entry ∷ earlier) = probed_sizes earlier

-- the sizes of those that were acknowledged
abbrev pub acked_sizes : List MtuEntry → List ℕ
acked_sizes [] = []
acked_sizes (acked number bytes ∷ earlier) =
    option_to_list (size_at number (probe_in_flight earlier)) ++ acked_sizes earlier
acked_sizes (entry ∷ earlier) = acked_sizes earlier

-- the sizes of those that were lost
abbrev pub lost_sizes : List MtuEntry → List ℕ
lost_sizes [] = []
lost_sizes (probe_lost ∷ earlier) =
    option_to_list (option_map (λ probe. probe.size) (probe_in_flight earlier)) ++ lost_sizes earlier
lost_sizes (entry ∷ earlier) = lost_sizes earlier

-- the search that runs has probed at most 16 sizes with at most 48 probes
pub record UsesFewProbes (entries : List MtuEntry) : Type 0 where
  pub sizes : distinct_count nat_eq (probed_sizes (search_of entries)) ≤ size_budget
  pub probes : length (probed_sizes (search_of entries)) ≤ probe_budget

-- ---- how near a search ends to what a link carries

-- no limit is reported while a search runs
abbrev pub AreLimitsOutside : List MtuEntry → Type 0
AreLimitsOutside [] = ⊤
AreLimitsOutside (limited limit ∷ earlier) = (search_runs earlier ≡ false) × AreLimitsOutside earlier
AreLimitsOutside (entry ∷ earlier) = AreLimitsOutside earlier

module _ (made : Discovery) where
  -- the MTU in use as the search began
  abbrev pub start_mtu : List MtuEntry → ℕ
  start_mtu entries = mtu_in_use made (before_search entries)

  -- to the search, exactly the sizes up to this one get through
  pub record IsHonest (link : ℕ) (entries : List MtuEntry) : Type 0 where
    pub start : start_mtu entries ≤ link
    pub acked : All (λ size. size ≤ link) (acked_sizes (search_of entries))
    pub lost : All (λ size. link < size) (lost_sizes (search_of entries))

  module _ (settings : MtuDiscoveryConfig) where
    -- the upper bound as the search began
    abbrev pub start_upper : List MtuEntry → ℕ
    start_upper entries = upper_from (start_mtu entries) (limit_or_greatest (limit_in_use made (before_search entries)))
        settings.upper_bound

    -- the MTU in use gets through, and is near the best size
    pub record IsNearBest (link : ℕ) (entries : List MtuEntry) : Type 0 where
      pub carried : mtu_in_use made entries ≤ link
      pub near : min link (start_upper entries) < mtu_in_use made entries + 2 * settings.minimum_change

    -- a search that ends by a poll ends near the best size of such a link
    abbrev pub EndsNearBest : List MtuEntry → Type 0
    EndsNearBest [] = ⊤
    EndsNearBest (unprobed now ∷ earlier) =
        probe_in_flight earlier ≡ None → is_searched settings now earlier ≡ true → (link : ℕ) → IsHonest link earlier
        → IsNearBest link earlier
    EndsNearBest (entry ∷ earlier) = ⊤
