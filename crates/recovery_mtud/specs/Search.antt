-- The MTU search of a path (RFC 8899, 5; RFC 9000, 14.3): it halves the distance between a size that gets through and
-- the largest that may. Sizes are in bytes, times and spans in nanoseconds.
use Rattle.std.specs.Prelude.{ℕ, ◌+◌, ◌-◌, ◌*◌, ◌/◌, ◌≤◌, ◌<◌, ◌==◌, nat_lt, nat_le, min, max, Bool, ◌&&◌, if◌then◌else◌, Option, Some, None, is_some, IfSome}
use Rattle.std.specs.Int.{abs_diff}
use Rattle.std.specs.Option.{option_map, option_map_or, option_and_then}
use Rattle.recovery_base.specs.Units.{last_time}
use Rattle.recovery_mtud.specs.declared.config.MtuDiscoveryConfig.{MtuDiscoveryConfig}
use Rattle.recovery_mtud.specs.declared.search.Probing.{Probing}

pub record MtuSearch : Type 0 where
  -- the largest size that the peer accepts (max_udp_payload_size of RFC 9000, 18.2)
  pub limit : ℕ
  -- the search that runs, if any; if none does, the next one may begin from this time on
  pub probing : Option Probing
  pub activation : ℕ
  pub settings : MtuDiscoveryConfig

-- the largest UDP payload, in bytes (RFC 9000, 18.2)
abbrev pub max_udp_payload : ℕ
max_udp_payload = 65527

-- how often one size is probed (MAX_PROBES of RFC 8899, 5.1.2)
abbrev pub max_probes : ℕ
max_probes = 3

-- the smallest `minimum_change`, in bytes, for which a search is proved to be short and end near the best size (RFC
-- 8899, 5.3.2)
abbrev pub smallest_change : ℕ
smallest_change = 3

-- the most sizes that one search probes: each halves what is left of 16 bits
abbrev pub size_budget : ℕ
size_budget = 16

-- the most probes that one search sends: 48
abbrev pub probe_budget : ℕ
probe_budget = size_budget * max_probes

-- a time this much later, or the last one
abbrev pub later : ℕ → ℕ → ℕ
later now span = min (now + span) last_time

-- ---- a search that runs

-- the configured bound, neither below the lower bound nor above what the peer accepts
abbrev pub upper_from : ℕ → ℕ → ℕ → ℕ
upper_from mtu limit bound = min (max bound (min mtu limit)) limit

-- it begins between the MTU in use, or what the peer accepts, and the upper bound
abbrev pub search_begun : ℕ → MtuSearch → Probing
search_begun mtu search =
    let lower = min mtu search.limit in
    let upper = upper_from mtu search.limit search.settings.upper_bound in
    record { lower = lower; upper = upper; last = lower; in_flight = None; losses = 0 }

-- a size counts as too large once it was lost three times (MAX_PROBES of RFC 8899, 5.1.2)
abbrev pub repeats : Probing → Bool
repeats p = nat_lt 0 p.losses && nat_lt p.losses max_probes

-- the bounds after the outcome of the last size
abbrev pub narrowed : Probing → Probing
narrowed p =
    if repeats p then p
    else (if p.losses == 0 then record p { lower = p.last } else record p { upper = p.last - 1; losses = 0 })

-- the size in the middle; the upper bound, if the middle is too near to the last size and the bound is not; or none
abbrev pub next_size : ℕ → Probing → Option ℕ
next_size change p =
    let middle = (p.lower + p.upper) / 2 in
    if nat_le change (abs_diff middle p.last) then (if middle == 0 then None else Some middle)
    else (if nat_le change (p.upper - p.last) then Some p.upper else None)

-- the size that is probed next
abbrev pub size_to_probe : ℕ → Probing → Option ℕ
size_to_probe change p = if repeats p then Some p.last else next_size change (narrowed p)

-- ---- polls

-- the search that a poll continues, or begins: none while a probe is in flight, or before the next activation
abbrev pub probing_at : ℕ → ℕ → MtuSearch → Option Probing
probing_at mtu now search =
    option_map_or (λ p. if is_some p.in_flight then None else Some p) search.probing
    (if nat_lt now search.activation then None else Some (search_begun mtu search))

-- the size that a poll returns, if any
abbrev pub search_poll : ℕ → ℕ → MtuSearch → Option ℕ
search_poll mtu now search = option_and_then (size_to_probe search.settings.minimum_change) (probing_at mtu now search)

-- a probe of this size is in flight from then on, under this number; if no size is left the search ends
abbrev pub probing_on : ℕ → ℕ → MtuSearch → Probing → Option ℕ → MtuSearch
probing_on now number search p None = record search { probing = None; activation = later now search.settings.interval }
probing_on now number search p (Some size) =
    record search { probing = Some (record (narrowed p) { in_flight = Some number; last = size }) }

-- the search after a poll; the probe, if any, gets this number
abbrev pub search_polled : ℕ → ℕ → ℕ → MtuSearch → MtuSearch
search_polled mtu now number search =
    option_map_or (λ p. probing_on now number search p (size_to_probe search.settings.minimum_change p))
    (probing_at mtu now search) search

-- ---- the outcome of a probe

-- the size of the probe in flight, if this is its number
abbrev pub probed_size : ℕ → MtuSearch → Option ℕ
probed_size number search =
    option_and_then (λ p. option_and_then (λ own. if number == own then Some p.last else None) p.in_flight)
    search.probing

abbrev pub probing_acked : Probing → Probing
probing_acked p = record p { in_flight = None; losses = 0 }

-- without a probe in flight nothing changes
abbrev pub probing_lost : Probing → Probing
probing_lost p = if is_some p.in_flight then record p { in_flight = None; losses = p.losses + 1 } else p

-- a change of the search that runs, if one does
abbrev pub search_with : (Probing → Probing) → MtuSearch → MtuSearch
search_with change search = record search { probing = option_map change search.probing }

-- ---- invariants of every search

-- the last size is above zero, and at most three probes of it were lost, at most two while one is in flight
abbrev pub IsProbingSound : Probing → Type 0
IsProbingSound p = (0 < p.last) × (p.losses ≤ (if is_some p.in_flight then max_probes - 1 else max_probes))

pub record IsSearchSound (search : MtuSearch) : Type 0 where
  pub limit : 0 < search.limit
  pub probing : IfSome search.probing IsProbingSound
