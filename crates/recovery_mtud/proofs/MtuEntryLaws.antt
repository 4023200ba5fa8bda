-- The state of a discovery is what its entries say: the sizes in use, the probe in flight, and whether a search runs.
-- The laws over all calls rest on it.
use Rattle.std.proofs.Common.{◌≡◌, ℕ, Option, Some, None, is_some, List, [], ◌∷◌, arith, refl, sym}
use Rattle.std.specs.Option.{option_map, option_and_then}
use Rattle.recovery_mtud.specs.declared.config.MtuDiscoveryConfig.{MtuDiscoveryConfig}
use Rattle.recovery_mtud.specs.Search.{MtuSearch, probed_size}
use Rattle.recovery_mtud.specs.Discovery.{Discovery, discovery_made, is_probe, is_searching_of}
use Rattle.recovery_mtud.specs.DiscoveryLog.{MtuCall, polls, discovery_after, discovery_by, kept_limit}
use Rattle.recovery_mtud.specs.MtuEntries.{probed, unprobed, poll_entry, IsFreshDiscovery, search_settings, MtuEntry, entry_of, entries_by, MtuProbe, probe_in_flight, size_at, limit_in_use, min_mtu_in_use, mtu_in_use}
use Rattle.recovery_mtud.specs.SearchRuns.{search_runs}

-- ---- the probe of a discovery

abbrev pub held : Option MtuSearch → Option MtuProbe
held search =
    let probing = option_and_then (λ own. own.probing) search in
    option_and_then (λ p. option_map (λ number. record { number = number; size = p.last }) p.in_flight) probing

pub record Holds (made : Discovery) (entries : List MtuEntry) (discovery : Discovery) : Type 0 where
  pub mtu : discovery.mtu ≡ mtu_in_use made entries
  pub limit : kept_limit discovery ≡ limit_in_use made entries
  pub min_mtu : discovery.bursts.min_mtu ≡ min_mtu_in_use made entries
  pub probe : held discovery.search ≡ probe_in_flight entries
  pub runs : is_searching_of discovery ≡ search_runs entries

-- the size that the state gives for a number is that of the probe in flight
pub size_in_held : (number : ℕ) (search : Option MtuSearch)
    → option_and_then (probed_size number) search ≡ size_at number (held search)
size_in_held _ _ = grind arith

-- what holds of a poll's entry without a probe, and with one
pub polled : (P : MtuEntry → Type 0) (now next : ℕ) (answer : Option ℕ) → P (unprobed now)
    → ((size : ℕ) → P (probed now next size)) → P (poll_entry now next answer)
polled P _ _ None none _ = none
polled P _ _ (Some size) _ some = some size

-- the state after a call is what its entry says: the last line is a proof for each call
pub holds_after : (made : Discovery) (entries : List MtuEntry) (call : MtuCall) (old : Discovery)
    → Holds made entries old → Holds made (entry_of call old ∷ entries) (discovery_after call old)
holds_after _ _ (polls _ _) _ holds = grind arith
holds_after _ _ _ _ holds = grind arith

-- ---- all calls

holds_made : (made : Discovery) → IsFreshDiscovery made → Holds made [] made
holds_made _ new = grind arith

-- after any calls, the state of a discovery is what the entries say: the MTU in use is theirs, and so are the probe in
-- flight and whether a search runs
pub holds_by : (made : Discovery) → IsFreshDiscovery made → (calls : List MtuCall)
    → Holds made (entries_by made calls) (discovery_by made calls)
holds_by made new [] = holds_made _ new
holds_by made new (call ∷ earlier) =
    holds_after _ _ _ _ (holds_by _ new earlier)

-- a number is that of the probe in flight exactly if the entries say so
pub is_probe_by : (made : Discovery) → IsFreshDiscovery made → (calls : List MtuCall) (number : ℕ)
    → is_probe number (discovery_by made calls) ≡ is_some (size_at number (probe_in_flight (entries_by made calls)))
is_probe_by made new calls _ = grind (arith, sym (holds_by made new calls).probe)

-- a discovery that was made, enabled or not, had no call
pub discovery_made_untold : (mtu min_mtu : ℕ) (limit : Option ℕ) (searched : Option MtuDiscoveryConfig)
    → IsFreshDiscovery (discovery_made mtu min_mtu limit searched)
discovery_made_untold _ _ _ None = record { search = tt; bursts = refl }
discovery_made_untold _ _ _ (Some _) = record { search = (refl, refl); bursts = refl }

pub made_settings : (mtu min_mtu : ℕ) (limit : Option ℕ) (searched : Option MtuDiscoveryConfig)
    → search_settings (discovery_made mtu min_mtu limit searched) ≡ searched
made_settings _ _ _ _ = grind arith
