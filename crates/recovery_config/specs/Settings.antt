-- The default settings of a connection.
use Rattle.std.specs.Prelude.{ℕ, ◌-◌, ◌*◌, max, true, false, Some, None}
use Rattle.recovery_base.specs.Units.{milliseconds, number_limit}
use Rattle.recovery_mtud.specs.Settings.{default_settings}
use Rattle.recovery_config.specs.declared.config.TransportConfig.{TransportConfig}

-- a table: times are in nanoseconds, except the idle timeout, which is in milliseconds; sizes are in bytes
abbrev pub settings_with : {F : Type 0} → F → TransportConfig F
settings_with factory = record {
  max_concurrent_bidi_streams = 100;
  max_concurrent_uni_streams = 100;
  -- 30 s (RFC 9308, 3.2)
  max_idle_timeout = Some 30000;
  -- 100 ms at 12.5 MB a second
  stream_receive_window = 1250000;
  -- the largest variable-length integer (RFC 9000, 16)
  receive_window = number_limit - 1;
  -- the windows of eight streams
  send_window = 8 * 1250000;
  send_fairness = true;
  -- RFC 9002, 6.1.1
  packet_threshold = 3;
  -- 9/8 (RFC 9002, 6.1.2)
  time_threshold = (9, 8);
  -- 333 ms (RFC 9002, 6.2.2)
  initial_rtt = 333 * milliseconds;
  -- RFC 9000, 14
  initial_mtu = 1200;
  min_mtu = 1200;
  -- RFC 9000, 14.3
  mtu_discovery_config = Some default_settings;
  pad_to_mtu = false;
  ack_frequency_config = None;
  -- RFC 9002, 7.6.1
  persistent_congestion_threshold = 3;
  keep_alive_interval = None;
  -- above the 4096 that RFC 9000, 7.5 asks for
  crypto_buffer_size = 16 * 1024;
  allow_spin = true;
  -- the window of a stream
  datagram_receive_buffer_size = Some 1250000;
  datagram_send_buffer_size = 1024 * 1024;
  congestion_controller_factory = factory;
}

-- the initial size of a path's datagrams, in bytes
abbrev pub initial_mtu_of : {F : Type 0} → TransportConfig F → ℕ
initial_mtu_of config = max config.initial_mtu config.min_mtu
