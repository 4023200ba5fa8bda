-- The default settings of a recovery (RFC 9000, 5.1, 8.1, 14.3 and 18.2).
use Rattle.std.specs.Prelude.{ℕ, ◌*◌, true, false, List, Some}
use Rattle.std.specs.declared.net.socket_addr.SocketAddr.{SocketAddr}
use Rattle.recovery_base.specs.Units.{milliseconds, seconds}
use Rattle.recovery_config.specs.declared.config.TransportConfig.{TransportConfig}
use Rattle.recovery_packet_numbers.specs.declared.filter.Skips.TheVariants.{Disabled}
use Rattle.recovery_history.specs.declared.config.RecoveryConfig.{RecoveryConfig}

-- times are in nanoseconds
abbrev pub config_with : {F : Type 0} → TransportConfig F → SocketAddr → List ℕ → RecoveryConfig F
config_with transport remote initial_cid = record {
  transport = transport;
  remote = remote;
  validated = false;
  allow_mtud = true;
  max_ack_delay = 25 * milliseconds;
  initial_cid = initial_cid;
  cid_len = 8;
  cid_lifetime = Some (10 * seconds);
  issued = 1;
  skips = Disabled;
}
