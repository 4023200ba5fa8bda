-- When the ACK delay timer starts (RFC 9000, 13.2.1 and 13.2.2). The answer to a new packet asks for it exactly if the
-- packet is ack-eliciting, the timer does not run by the answers, and no ACK is required at once (`IsRequired`).
use Rattle.std.specs.Prelude.{◌≡◌, ◌↔◌, true, false, ◌∷◌, Ok}
use Rattle.recovery_spaces.specs.Acks.{IsRequired}
use Rattle.recovery_events.specs.declared.event.Event.{Event}
use Rattle.recovery_events.specs.declared.event.Event.TheVariants.{Received}
use Rattle.recovery_events.specs.declared.event.Answer.TheVariants.{New}
use Rattle.recovery_history.specs.RepliesAfter.{logs_of}
use Rattle.recovery_history.specs.History.{Beginning, History, Reply}
use Rattle.recovery_history.specs.Promises.AckDuty.{timer_runs}

module _ {F K Q S M P : Type 0} (beginning : Beginning F K Q S M P) where
  abbrev pub StartsAckDelayTimer : History Q S M P → Event Q S M P → Reply Q → Type 0
  StartsAckDelayTimer before (Received space now number eliciting) (Ok (New arm)) =
      let after = (Received space now number eliciting, Ok (New arm)) ∷ before in
      (arm ≡ true) ↔ ((eliciting ≡ true) × (timer_runs space before ≡ false)
      × ¬ IsRequired ((logs_of beginning after).spaces space))
  StartsAckDelayTimer before event reply = Unit {0}
