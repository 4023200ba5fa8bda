-- The settings of MTU discovery (RFC 8899, 5.1; RFC 9000, 14.3).
use Rattle.std.specs.Prelude.{◌*◌}
use Rattle.recovery_base.specs.Units.{seconds}
use Rattle.recovery_mtud.specs.declared.config.MtuDiscoveryConfig.{MtuDiscoveryConfig}

-- 600 s, 1452 bytes, 60 s, 20 bytes
abbrev pub default_settings : MtuDiscoveryConfig
default_settings = record {
  interval = 600 * seconds;
  upper_bound = 1452;
  black_hole_cooldown = 60 * seconds;
  minimum_change = 20;
}
