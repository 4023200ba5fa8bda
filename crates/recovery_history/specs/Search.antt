-- The settings of MTU searches (RFC 8899, 5; RFC 9000, 14.3).
use Rattle.std.specs.Prelude.{◌≤◌, Option, None, if◌then◌else◌}
use Rattle.std.specs.Option.{ForSome}
use Rattle.recovery_mtud.specs.declared.config.MtuDiscoveryConfig.{MtuDiscoveryConfig}
use Rattle.recovery_mtud.specs.Search.{smallest_change}
use Rattle.recovery_history.specs.History.{Beginning}

module _ {F K Q S M P : Type 0} (beginning : Beginning F K Q S M P) where
  -- the settings of the search, if it is allowed and configured
  abbrev pub discovery_settings : Option MtuDiscoveryConfig
  discovery_settings = if beginning.config.allow_mtud then beginning.config.transport.mtu_discovery_config else None

  -- this holds if MTU discovery is enabled and the minimum change is 3 or more
  abbrev pub WhereSearched : (MtuDiscoveryConfig → Type 0) → Type 0
  WhereSearched Holds =
      ForSome discovery_settings (λ settings. smallest_change ≤ settings.minimum_change → Holds settings)
