-- Events that leave the loss detection timer unchanged: received packets, sent ACKs, taken contents, pacer checks, IDs,
-- and events that change nothing.
use Rattle.std.specs.Prelude.{Bool, true, false}
use Rattle.recovery_events.specs.declared.event.Event.{Event}
use Rattle.recovery_events.specs.declared.event.Event.TheVariants.{Received, AcksSent, AckDelayTimeout, TakePending, PacerCheck, NewId, NextId, InitialId, IssueIds, IdTimeout, PeerRetired, NextTimeout, InFlight, CheckAck}

abbrev pub leaves_timer : {Q S M P : Type 0} → Event Q S M P → Bool
leaves_timer (Received space now number eliciting) = true
leaves_timer (AcksSent space) = true
leaves_timer (AckDelayTimeout space) = true
leaves_timer (TakePending space) = true
leaves_timer (PacerCheck now bytes) = true
leaves_timer (NewId frame) = true
leaves_timer NextId = true
leaves_timer (InitialId id) = true
leaves_timer (IssueIds now ids) = true
leaves_timer IdTimeout = true
leaves_timer (PeerRetired sequence limit) = true
leaves_timer NextTimeout = true
leaves_timer (InFlight path) = true
leaves_timer (CheckAck space low high) = true
leaves_timer event = false
