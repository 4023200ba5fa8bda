-- The sender of a run, as it begins.
use Rattle.std.specs.Prelude.{ℕ, Bool, true, false, Option, Some, None}
use Rattle.std.specs.declared.net.socket_addr.SocketAddr.{SocketAddr}
use Rattle.rand_core.specs.Stream.{Stream}
use Rattle.recovery_config.specs.declared.config.TransportConfig.{TransportConfig}
use Rattle.recovery_history.specs.declared.config.RecoveryConfig.{RecoveryConfig}
use Rattle.recovery_losses.specs.declared.variables.Side.{Side}
use Rattle.recovery_replay.specs.Replay.{first_port, settings, skips_with, words_with}
use Rattle.recovery_script_syntax.specs.Lines.{IsDocumentationAddress}
use Rattle.recovery_sender.specs.Calls.{IsNewSender}
use Rattle.recovery_sender.specs.Established.{IsEstablishedSender}
use Rattle.recovery_sender.specs.declared.sender.Sender.{Sender}
use Rattle.recovery_sender_program.specs.declared.choice.Choice.{Choice}
use Rattle.recovery_sender_program.specs.declared.choice.Settings.{Settings}

-- the chosen thresholds of loss detection (RFC 9002, 6.1 and 7.6.1), or the defaults
abbrev pub with_thresholds : {F : Type 0} → Option Settings → TransportConfig F → TransportConfig F
with_thresholds None transport = transport
with_thresholds (Some chosen) transport = record transport {
  packet_threshold = chosen.packets;
  time_threshold = (chosen.numerator, chosen.denominator);
  persistent_congestion_threshold = chosen.periods;
}

-- the settings: the defaults, except for the skips and these thresholds
abbrev pub settings_of : {F : Type 0} → F → SocketAddr → Choice → RecoveryConfig F
settings_of factory remote choice =
    let config = settings factory remote (skips_with choice.seed) in
    record config { transport = with_thresholds choice.settings config.transport }

module _ {F Q R C K S M P : Type 0} {f : _} {c : _} {q : _} {m : _} {r : _} where
  -- the connection is established, or begins with its handshake
  abbrev pub BeginsSo : Bool → Side → RecoveryConfig F → ℕ → Stream → Sender F Q R C K S M P f c q m r → Type 0
  BeginsSo true side config start random first = IsEstablishedSender side config start random first
  BeginsSo false side config start random first = IsNewSender side config start random first

  -- a sender as the choices of the arguments have it, at time 0, with a peer at an address with its port
  pub record BeginsAs (choice : Choice) (factory : F) (first : Sender F Q R C K S M P f c q m r) : Type 0 where
    pub remote : SocketAddr
    pub at : IsDocumentationAddress first_port remote
    pub begins : BeginsSo choice.is_established choice.side (settings_of factory remote choice) 0
        (words_with choice.seed) first
