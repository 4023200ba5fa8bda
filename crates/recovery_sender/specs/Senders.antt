-- The state of a sender for its callers: the parts of its recovery, next to its variables (RFC 9002, A.3).
use Rattle.recovery_history.specs.RecoveryState.{RecoveryState}
use Rattle.quic_recovery.specs.State.{state_of}
use Rattle.recovery_sender.specs.declared.sender.Sender.{Sender}

abbrev pub state_in : {F Q R C K S M P : Type 0} {f : _} {c : _} {q : _} {m : _} {r : _}
    → Sender F Q R C K S M P f c q m r → RecoveryState K P M
state_in sender = state_of sender.recovery.recovery
