-- A connection that is established: its address is validated, its handshake confirmed, and the Initial and Handshake
-- spaces are discarded (RFC 9001, 4.1.2 and 4.9).
use Rattle.std.specs.Prelude.{ℕ, ◌∷◌, [], true, Ok, Result}
use Rattle.rand_core.specs.Stream.{Stream}
use Rattle.recovery_base.specs.declared.below.SpaceId.TheVariants.{Handshake, Initial}
use Rattle.recovery_events.specs.declared.event.Answer.TheVariants.{Done}
use Rattle.recovery_events.specs.declared.event.Event.TheVariants.{Validated}
use Rattle.recovery_paths.specs.declared.path_pair.PathName.TheVariants.{Current}
use Rattle.recovery_history.specs.declared.config.RecoveryConfig.{RecoveryConfig}
use Rattle.recovery_losses.specs.declared.variables.Side.{Side}
use Rattle.recovery_sender.specs.declared.sender.SenderError.{SenderError}
use Rattle.recovery_sender.specs.declared.sender.Sender.{Sender}
use Rattle.recovery_sender.specs.CallReplies.{DiscardCall}
use Rattle.recovery_sender.specs.Calls.{IsNewSender}
use Rattle.recovery_sender.specs.Steps.{CompletesCall, told}

module _ {F Q R C K S M P : Type 0} {f : _} {c : _} {q : _} {m : _} {r : _} where
  -- four calls from a new sender, all at its start
  pub record IsEstablishedSender (side : Side) (config : RecoveryConfig F) (start : ℕ) (random : Stream)
      (new : Sender F Q R C K S M P f c q m r) : Type 0 where
    pub first : Sender F Q R C K S M P f c q m r
    pub validated : Sender F Q R C K S M P f c q m r
    pub confirmed : Sender F Q R C K S M P f c q m r
    pub no_initial : Sender F Q R C K S M P f c q m r
    pub replies : Result (Unit {0}) SenderError × Result (Unit {0}) SenderError
    pub begins : IsNewSender side config start random first
    pub validates : CompletesCall (told (Validated Current) (Ok Done) ∷ []) first.variables first validated
    pub confirms : CompletesCall [] (record validated.variables {
      is_handshake_confirmed = true;
      is_address_known = true;
    }) validated confirmed
    pub ends_initial : DiscardCall confirmed no_initial Initial start replies.0
    pub ends_handshake : DiscardCall no_initial new Handshake start replies.1
