-- The value of an `MtuDiscovery` in contracts.
use Rattle.recovery_mtud.specs.Discovery.{Discovery}
use Rattle.recovery_mtud.specs.declared.mtud.MtuDiscovery.TheInside.{Inside}

abbrev pub discovery_in : Inside → Discovery
discovery_in discovery = record { mtu = discovery.current_mtu; search = discovery.search; bursts = discovery.detector }

abbrev pub discovery_back : Discovery → Inside
discovery_back discovery =
    record { current_mtu = discovery.mtu; search = discovery.search; detector = discovery.bursts }
