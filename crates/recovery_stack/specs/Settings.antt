-- The settings of a recovery.
use Rattle.std.specs.Prelude.{ℕ, ◌*◌, ◌≤◌, ◌<◌, ◌==◌, ◌||◌, nat_lt, nat_le, min, max, true, false, List, Option, None, Some, if◌then◌else◌}
use Rattle.std.specs.declared.net.socket_addr.SocketAddr.{SocketAddr}
use Rattle.rand_core.specs.Pcg32Seed.{pcg32_seed}
use Rattle.rand_core.specs.Steps.{stream_of, steps_u32}
use Rattle.rand_core.specs.Stream.{Stream}
use Rattle.recovery_base.specs.Units.{milliseconds, number_limit, seconds}
use Rattle.rand_pcg.specs.Pcg.{pcg32, pcg32_of_seed}
use Rattle.recovery_congestion.specs.RenoSettings.{RenoSettings}
use Rattle.recovery_config.specs.Settings.{settings_with}
use Rattle.recovery_config.specs.declared.config.TransportConfig.{TransportConfig}
use Rattle.recovery_mtud.specs.declared.config.MtuDiscoveryConfig.{MtuDiscoveryConfig}
use Rattle.recovery_mtud.specs.Search.{max_udp_payload}
use Rattle.recovery_packet_numbers.specs.declared.filter.Skips.{Skips}
use Rattle.recovery_packet_numbers.specs.declared.filter.Skips.TheVariants.{Drawn, Disabled, Starting}
use Rattle.recovery_packet_numbers.specs.Skips.{first_skip_limit}
use Rattle.recovery_history.specs.declared.config.RecoveryConfig.{RecoveryConfig}
use Rattle.recovery_history.specs.Config.{config_with}
use Rattle.recovery_engine.specs.declared.controllers.ChosenConfig.{ChosenConfig}
use Rattle.recovery_engine.specs.declared.controllers.ChosenConfig.TheVariants.{Reno, Fixed, Cubic}
use Rattle.recovery_engine.specs.declared.numbers.TheConstants.{CONTROLLER_CUBIC, CONTROLLER_FIXED, CONTROLLER_NEW_RENO, NEW_MADE, NEW_SKIP_TOO_LARGE, NEW_TOO_MANY_ISSUED, NEW_UNKNOWN_CONTROLLER, NEW_UNKNOWN_SKIPS, NEW_ZERO_DENOMINATOR, NEW_ZERO_MTU, NEW_ZERO_WINDOW, SKIPS_DISABLED, SKIPS_DRAWN, SKIPS_STARTING}
use Rattle.recovery_stack.specs.declared.settings.Settings.{Settings}
use Rattle.recovery_stack.specs.Codes.{maybe}

-- the first error in settings; `NEW_MADE` if there is none
abbrev pub settings_fault : Settings → ℕ
settings_fault settings =
    if nat_lt number_limit settings.issued then NEW_TOO_MANY_ISSUED else
    (if nat_le first_skip_limit settings.first_skip then NEW_SKIP_TOO_LARGE else
    (if settings.initial_mtu == 0 || settings.min_mtu == 0 then NEW_ZERO_MTU else
    (if settings.initial_window == 0 then NEW_ZERO_WINDOW else
    (if settings.loss_denominator == 0 || settings.time_denominator == 0 then NEW_ZERO_DENOMINATOR else
    (if nat_lt CONTROLLER_CUBIC settings.controller then NEW_UNKNOWN_CONTROLLER else
    (if nat_lt SKIPS_STARTING settings.skips then NEW_UNKNOWN_SKIPS else NEW_MADE))))))

-- what the parts of a recovery require of valid settings
pub record AreSettingsSound (settings : Settings) : Type 0 where
  pub issued : settings.issued ≤ number_limit
  pub first_skip : settings.first_skip < first_skip_limit
  pub window : 0 < settings.initial_window
  pub factor : 0 < settings.loss_denominator
  pub time : 0 < settings.time_denominator
  pub initial_mtu : 0 < settings.initial_mtu
  pub min_mtu : 0 < settings.min_mtu

abbrev pub skips_of : ℕ → ℕ → Skips
skips_of kind first =
    if kind == SKIPS_DISABLED then Disabled else (if kind == SKIPS_DRAWN then Drawn else Starting first)

abbrev pub reno_of : Settings → RenoSettings
reno_of settings = record {
  initial_window = settings.initial_window;
  numerator = settings.loss_numerator;
  denominator = settings.loss_denominator;
}

abbrev pub controller_of : Settings → ChosenConfig
controller_of settings =
    if settings.controller == CONTROLLER_NEW_RENO then Reno (reno_of settings) else
    (if settings.controller == CONTROLLER_FIXED then Fixed settings.initial_window else Cubic settings.initial_window)

-- the configuration of MTU discovery: a bound above the limit of UDP, and a step of zero, are replaced by the nearest
-- valid ones
abbrev pub discovery_of : Settings → Option MtuDiscoveryConfig
discovery_of settings =
    if settings.searches
    then Some (record {
      interval = settings.mtu_interval;
      upper_bound = min settings.mtu_upper_bound max_udp_payload;
      black_hole_cooldown = settings.black_hole_cooldown;
      minimum_change = max settings.mtu_minimum_change 1;
    })
    else None

abbrev pub transport_of : Settings → TransportConfig ChosenConfig
transport_of settings = record (settings_with (controller_of settings)) {
  initial_rtt = settings.initial_rtt;
  initial_mtu = settings.initial_mtu;
  min_mtu = settings.min_mtu;
  mtu_discovery_config = discovery_of settings;
  packet_threshold = settings.packet_threshold;
  time_threshold = (settings.time_numerator, settings.time_denominator);
  persistent_congestion_threshold = settings.persistent_congestion_threshold;
}

abbrev pub config_of : Settings → List ℕ → SocketAddr → RecoveryConfig ChosenConfig
config_of settings cid remote = record (config_with (transport_of settings) remote cid) {
  validated = settings.validated;
  allow_mtud = settings.allow_mtud;
  max_ack_delay = settings.max_ack_delay;
  cid_len = settings.cid_len;
  cid_lifetime = maybe settings.ids_end settings.cid_lifetime;
  issued = settings.issued;
  skips = skips_of settings.skips settings.first_skip;
}

-- the default settings (RFC 9000, 14 and 18.2; RFC 9002, 6.1, 6.2.2, 7.2 and 7.6.1)
abbrev pub default_settings : Settings
default_settings = record {
  max_ack_delay = 25 * milliseconds;
  cid_lifetime = 10 * seconds;
  issued = 1;
  seed = 0;
  first_skip = 0;
  initial_rtt = 333 * milliseconds;
  mtu_interval = 600 * seconds;
  black_hole_cooldown = 60 * seconds;
  initial_window = 12000;
  loss_numerator = 1;
  loss_denominator = 2;
  time_numerator = 9;
  time_denominator = 8;
  packet_threshold = 3;
  persistent_congestion_threshold = 3;
  initial_mtu = 1200;
  min_mtu = 1200;
  mtu_upper_bound = 1452;
  mtu_minimum_change = 20;
  cid_len = 8;
  controller = CONTROLLER_NEW_RENO;
  skips = SKIPS_DISABLED;
  ids_end = true;
  validated = false;
  allow_mtud = true;
  searches = true;
}

-- the random stream: that of PCG32 with the seed
abbrev pub words_of : ℕ → Stream
words_of seed = stream_of (steps_u32 pcg32) (pcg32_of_seed (pcg32_seed 16 seed))
