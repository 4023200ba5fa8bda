-- MTU discovery by its calls, one after another (RFC 8899, 4.3 and 5; RFC 9000, 14.3).
use Rattle.std.specs.Prelude.{ℕ, ◌<◌, min, ⊤, if◌then◌else◌, Option, None, List, [], ◌∷◌, unwrap_or}
use Rattle.std.specs.Option.{option_map, option_map_or}
use Rattle.recovery_mtud.specs.Search.{MtuSearch, search_polled, search_with, probing_acked, probing_lost, later}
use Rattle.recovery_mtud.specs.Bursts.{bursts_acked, bursts_closed, bursts_lost}
use Rattle.recovery_mtud.specs.Discovery.{Discovery, discovery_made, size_of_probe, reports, within}

pub data MtuCall : Type 0 where
  -- may a probe be sent? It would be the packet of that number
  polls : (now next : ℕ) → MtuCall
  -- the peer accepts no larger packets
  is_limited : (limit : ℕ) → MtuCall
  -- a 1-RTT packet is acknowledged
  acks : (number bytes : ℕ) → MtuCall
  -- the probe in flight is lost
  loses_probe : MtuCall
  -- another 1-RTT packet is lost
  loses : (number bytes : ℕ) → MtuCall
  -- a loss detection pass ends
  losses_end : (now : ℕ) → MtuCall
  -- an MTU was found elsewhere: by a search of the caller's, or a configured tunnel (RFC 8899, 5; RFC 9000, 14.3)
  is_found : (mtu : ℕ) → MtuCall
  -- all starts again
  resets : (mtu min_mtu : ℕ) → MtuCall

-- the discovery after a call. The size of an acknowledged probe is the MTU in use, and refutes all losses before it. A
-- report leaves the minimum MTU, and no search before the cooldown is over. An MTU found elsewhere is in use if
-- discovery is disabled. A reset does not change the peer's limit
abbrev pub discovery_after : MtuCall → Discovery → Discovery
discovery_after (polls now next) old = record old { search = option_map (search_polled old.mtu now next) old.search }
discovery_after (is_limited limit) old = record old {
  mtu = min old.mtu limit;
  search = option_map {T = MtuSearch} (λ own. record own { limit = limit }) old.search;
}
discovery_after (acks number bytes) old =
    option_map_or (λ size. record old {
      mtu = size;
      search = option_map (search_with probing_acked) old.search;
      bursts = record old.bursts { kept = []; acked = bytes; newest = number };
    }) (size_of_probe number old) (record old { bursts = bursts_acked number bytes old.bursts })
discovery_after loses_probe old = record old { search = option_map (search_with probing_lost) old.search }
discovery_after (loses number bytes) old = record old { bursts = bursts_lost number bytes old.bursts }
discovery_after (losses_end now) old =
    let closed = bursts_closed old.bursts in
    if reports old then record old {
      mtu = old.bursts.min_mtu;
      search = option_map {T = MtuSearch}
          (λ own. record own { probing = None; activation = later now own.settings.black_hole_cooldown }) old.search;
      bursts = record closed { kept = [] };
    } else record old { bursts = closed }
discovery_after (is_found mtu) old = record old { mtu = option_map_or (λ own. old.mtu) old.search mtu }
discovery_after (resets mtu min_mtu) old =
    discovery_made mtu min_mtu (option_map (λ own. own.limit) old.search) (option_map (λ own. own.settings) old.search)

-- the discovery after calls, the newest first
abbrev pub discovery_by : Discovery → List MtuCall → Discovery
discovery_by made [] = made
discovery_by made (call ∷ earlier) = discovery_after call (discovery_by made earlier)

-- sizes that are reported are above zero
abbrev pub IsPositiveMtuCall : MtuCall → Type 0
IsPositiveMtuCall (is_limited limit) = 0 < limit
IsPositiveMtuCall (is_found mtu) = 0 < mtu
IsPositiveMtuCall (resets mtu min_mtu) = (0 < mtu) × (0 < min_mtu)
IsPositiveMtuCall call = ⊤

abbrev pub ArePositiveMtuCalls : List MtuCall → Type 0
ArePositiveMtuCalls [] = ⊤
ArePositiveMtuCalls (call ∷ earlier) = IsPositiveMtuCall call × ArePositiveMtuCalls earlier

-- the peer's limit, which a reset does not change; a disabled discovery has none
abbrev pub kept_limit : Discovery → Option ℕ
kept_limit discovery = option_map (λ search. search.limit) discovery.search

-- the MTU in use after a call. It is the size of an acknowledged probe, at most a reported limit, the minimum MTU after
-- a report, one found elsewhere, or that of a reset, at most the limit. Otherwise it is unchanged
abbrev pub mtu_after : MtuCall → Discovery → ℕ
mtu_after (is_limited limit) old = min old.mtu limit
mtu_after (acks number bytes) old = unwrap_or (size_of_probe number old) old.mtu
mtu_after (losses_end now) old = if reports old then old.bursts.min_mtu else old.mtu
mtu_after (is_found mtu) old = option_map_or (λ own. old.mtu) old.search mtu
mtu_after (resets mtu min_mtu) old = within mtu (kept_limit old)
mtu_after call old = old.mtu
