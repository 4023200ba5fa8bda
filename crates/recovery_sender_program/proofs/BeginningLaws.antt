-- How a run begins: `begun` rests on it.
use Rattle.std.proofs.Common.{◌≡◌, ℕ, Bool}
use Rattle.std.specs.declared.net.socket_addr.SocketAddr.{SocketAddr}
use Rattle.rand_core.specs.Stream.{Stream}
use Rattle.recovery_history.specs.declared.config.RecoveryConfig.{RecoveryConfig}
use Rattle.recovery_replay.specs.Replay.{words_with}
use Rattle.recovery_script_syntax.specs.Lines.{IsDocumentationAddress}
use Rattle.recovery_sender.specs.declared.sender.Sender.{Sender}
use Rattle.recovery_sender_program.specs.Beginning.{BeginsAs, BeginsSo, settings_of}
use Rattle.recovery_sender_program.specs.declared.choice.Choice.{Choice}

module _ {F Q R C K S M P : Type 0} {f : _} {c : _} {q : _} {m : _} {r : _} (choice : Choice) (factory : F)
    (remote : SocketAddr) (at : IsDocumentationAddress 4433 remote) (config : RecoveryConfig F) (start : ℕ)
    (random : Stream) (is_config : config ≡ settings_of factory remote choice) (is_start : start ≡ 0)
    (is_random : random ≡ words_with choice.seed) where
  pub begins_as : (established : Bool) → choice.is_established ≡ established
      → (first : Sender F Q R C K S M P f c q m r) → BeginsSo established choice.side config start random first
      → BeginsAs choice factory first
  begins_as established is first begins = record {
    remote = remote;
    at = at;
    begins = rw is (rw (is_config, is_start, is_random) at begins);
  }
