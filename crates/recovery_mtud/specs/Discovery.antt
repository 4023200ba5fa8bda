-- The state and answers of the MTU discovery of a path (RFC 8899, 4.3 and 5; RFC 9000, 14.3). Sizes are in bytes, times
-- in nanoseconds.
use Rattle.std.specs.Prelude.{ℕ, ◌<◌, min, nat_le, Bool, Option, None, is_some, length, unwrap_or}
use Rattle.std.specs.Option.{option_and, option_map, option_map_or, option_and_then, IfSome}
use Rattle.recovery_mtud.specs.declared.config.MtuDiscoveryConfig.{MtuDiscoveryConfig}
use Rattle.recovery_mtud.specs.Search.{MtuSearch, IsSearchSound, search_poll, probed_size, max_udp_payload}
use Rattle.recovery_mtud.specs.Bursts.{LossBursts, AreBurstsSound, bursts_made, bursts_closed, black_hole_bursts}

pub record Discovery : Type 0 where
  -- the MTU in use
  pub mtu : ℕ
  -- none if discovery is disabled
  pub search : Option MtuSearch
  pub bursts : LossBursts

-- ---- how it begins

-- the peer accepts any size until it states a limit (RFC 9000, 18.2)
abbrev pub limit_or_greatest : Option ℕ → ℕ
limit_or_greatest limit = unwrap_or limit max_udp_payload

abbrev pub within : ℕ → Option ℕ → ℕ
within mtu limit = option_map_or (min mtu) limit mtu

-- with an MTU, the minimum MTU and the peer's limit, if it is known; without settings there is no search, and no limit
-- is stored
abbrev pub discovery_made : ℕ → ℕ → Option ℕ → Option MtuDiscoveryConfig → Discovery
discovery_made mtu min_mtu limit searched = record {
  mtu = within mtu (option_and searched limit);
  search = option_map
      (λ settings. record { limit = limit_or_greatest limit; probing = None; activation = 0; settings = settings })
      searched;
  bursts = bursts_made min_mtu;
}

-- ---- its answers

-- discovery is enabled
abbrev pub is_enabled_of : Discovery → Bool
is_enabled_of discovery = is_some discovery.search

-- a search runs
abbrev pub is_searching_of : Discovery → Bool
is_searching_of discovery = is_some (option_and_then (λ search. search.probing) discovery.search)

-- the number of the probe in flight
abbrev pub probe_of : Discovery → Option ℕ
probe_of discovery =
    option_and_then (λ search. option_and_then (λ p. p.in_flight) search.probing) discovery.search

-- the size of the probe in flight, if this is its number
abbrev pub size_of_probe : ℕ → Discovery → Option ℕ
size_of_probe number discovery = option_and_then (probed_size number) discovery.search

-- this is the number of the probe in flight
abbrev pub is_probe : ℕ → Discovery → Bool
is_probe number discovery = is_some (size_of_probe number discovery)

-- the size that a poll returns, if any
abbrev pub poll_of : ℕ → Discovery → Option ℕ
poll_of now discovery = option_and_then (search_poll discovery.mtu now) discovery.search

-- the end of a loss detection pass reports a black hole: four suspicious bursts have closed
abbrev pub reports : Discovery → Bool
reports discovery = nat_le black_hole_bursts (length (bursts_closed discovery.bursts).kept)

-- ---- invariants of every discovery

pub record IsDiscoverySound (discovery : Discovery) : Type 0 where
  pub mtu : 0 < discovery.mtu
  pub search : IfSome discovery.search IsSearchSound
  pub bursts : AreBurstsSound discovery.bursts
