-- The calls of a discovery with their answers (RFC 8899, 4.3 and 5; RFC 9000, 14.3). Every list here has the newest
-- entry first.
use Rattle.std.specs.Prelude.{◌≡◌, ℕ, ◌==◌, IfSome, min, if◌then◌else◌, Option, Some, None, List, [], ◌∷◌, unwrap_or}
use Rattle.std.specs.Option.{option_map, option_map_or}
use Rattle.recovery_mtud.specs.declared.config.MtuDiscoveryConfig.{MtuDiscoveryConfig}
use Rattle.recovery_mtud.specs.Bursts.{bursts_made}
use Rattle.recovery_mtud.specs.Discovery.{Discovery, poll_of, reports, within}
use Rattle.recovery_mtud.specs.DiscoveryLog.{MtuCall, polls, is_limited, acks, loses_probe, loses, losses_end, is_found, resets, discovery_by, kept_limit}

-- a discovery without any call yet
pub record IsFreshDiscovery (made : Discovery) : Type 0 where
  pub search : IfSome made.search (λ search. (search.probing ≡ None) × (search.activation ≡ 0))
  pub bursts : made.bursts ≡ bursts_made made.bursts.min_mtu

-- the settings of its search, if it has one
abbrev pub search_settings : Discovery → Option MtuDiscoveryConfig
search_settings made = option_map (λ search. search.settings) made.search

pub data MtuEntry : Type 0 where
  -- a poll returns a probe of that size, as the packet of that number
  probed : (now number size : ℕ) → MtuEntry
  -- a poll returns none
  unprobed : (now : ℕ) → MtuEntry
  -- the peer accepts no larger packets
  limited : (limit : ℕ) → MtuEntry
  -- a 1-RTT packet is acknowledged
  acked : (number bytes : ℕ) → MtuEntry
  -- the probe in flight is lost
  probe_lost : MtuEntry
  -- another 1-RTT packet is lost
  lost : (number bytes : ℕ) → MtuEntry
  -- a loss detection pass ends, and no black hole is reported
  losses_over : MtuEntry
  -- a loss detection pass ends, and a black hole is reported
  reported : (now : ℕ) → MtuEntry
  -- an MTU was found elsewhere
  found : (mtu : ℕ) → MtuEntry
  -- all starts again
  reset : (mtu min_mtu : ℕ) → MtuEntry

abbrev pub poll_entry : ℕ → ℕ → Option ℕ → MtuEntry
poll_entry now next None = unprobed now
poll_entry now next (Some size) = probed now next size

-- what a call is to a discovery, with its answer
abbrev pub entry_of : MtuCall → Discovery → MtuEntry
entry_of (polls now next) old = poll_entry now next (poll_of now old)
entry_of (is_limited limit) old = limited limit
entry_of (acks number bytes) old = acked number bytes
entry_of loses_probe old = probe_lost
entry_of (loses number bytes) old = lost number bytes
entry_of (losses_end now) old = if reports old then reported now else losses_over
entry_of (is_found mtu) old = found mtu
entry_of (resets mtu min_mtu) old = reset mtu min_mtu

-- the entries of all calls to the discovery that was made
abbrev pub entries_by : Discovery → List MtuCall → List MtuEntry
entries_by made [] = []
entries_by made (call ∷ earlier) = entry_of call (discovery_by made earlier) ∷ entries_by made earlier

-- ---- the probe in flight

pub record MtuProbe : Type 0 where
  pub number : ℕ
  pub size : ℕ

abbrev pub unless_number : ℕ → Option MtuProbe → Option MtuProbe
unless_number number None = None
unless_number number (Some probe) = if number == probe.number then None else Some probe

-- from the poll that returns it until it is acknowledged or lost, or until a report or a reset
abbrev pub probe_in_flight : List MtuEntry → Option MtuProbe
probe_in_flight [] = None
probe_in_flight (probed now number size ∷ earlier) = Some (record { number = number; size = size })
probe_in_flight (acked number bytes ∷ earlier) = unless_number number (probe_in_flight earlier)
probe_in_flight (probe_lost ∷ earlier) = None
probe_in_flight (reported now ∷ earlier) = None
probe_in_flight (reset mtu min_mtu ∷ earlier) = None
probe_in_flight (entry ∷ earlier) = probe_in_flight earlier

-- its size, if this is its number
abbrev pub size_at : ℕ → Option MtuProbe → Option ℕ
size_at number None = None
size_at number (Some probe) = if number == probe.number then Some probe.size else None

-- ---- the sizes in use, from a discovery that was made

module _ (made : Discovery) where
  -- the largest size that the peer accepts, as it stated last; if discovery is disabled none is stored
  abbrev pub limit_in_use : List MtuEntry → Option ℕ
  limit_in_use [] = kept_limit made
  limit_in_use (limited limit ∷ earlier) = option_map (λ old. limit) (limit_in_use earlier)
  limit_in_use (entry ∷ earlier) = limit_in_use earlier

  -- the minimum MTU
  abbrev pub min_mtu_in_use : List MtuEntry → ℕ
  min_mtu_in_use [] = made.bursts.min_mtu
  min_mtu_in_use (reset mtu min_mtu ∷ earlier) = min_mtu
  min_mtu_in_use (entry ∷ earlier) = min_mtu_in_use earlier

  -- the MTU: the size of the probe acknowledged last, unless a limit, a report or a reset set it since; if discovery is
  -- disabled, the one found elsewhere last
  abbrev pub mtu_in_use : List MtuEntry → ℕ
  mtu_in_use [] = made.mtu
  mtu_in_use (acked number bytes ∷ earlier) = unwrap_or (size_at number (probe_in_flight earlier)) (mtu_in_use earlier)
  mtu_in_use (limited limit ∷ earlier) = min (mtu_in_use earlier) limit
  mtu_in_use (reported now ∷ earlier) = min_mtu_in_use earlier
  mtu_in_use (found mtu ∷ earlier) = option_map_or (λ limit. mtu_in_use earlier) (limit_in_use earlier) mtu
  mtu_in_use (reset mtu min_mtu ∷ earlier) = within mtu (limit_in_use earlier)
  mtu_in_use (entry ∷ earlier) = mtu_in_use earlier
