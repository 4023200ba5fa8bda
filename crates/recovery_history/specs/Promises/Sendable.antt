-- What a probe finds to send (RFC 9002, 6.2.4): always something ack-eliciting; and an ACK exactly if one is required
-- at once (`IsRequired`) and some number is to be acknowledged.
use Rattle.std.specs.Prelude.{◌≡◌, ◌↔◌, ℕ, true, false, Ok}
use Rattle.recovery_spaces.specs.Acks.{IsRequired}
use Rattle.recovery_queue.specs.Queues.{QueueSemantics}
use Rattle.recovery_events.specs.declared.event.Event.{Event}
use Rattle.recovery_events.specs.declared.event.Event.TheVariants.{QueueProbe}
use Rattle.recovery_events.specs.declared.event.Answer.TheVariants as answer
use Rattle.recovery_history.specs.RepliesAfter.{logs_of}
use Rattle.recovery_history.specs.History.{Beginning, History, Reply}
use Rattle.recovery_history.specs.Promises.Acknowledged.{WasReceived, WasDropped}

-- a queue joined with non-empty contents is not empty
abbrev pub JoinStaysNonempty : {P S : Type 0} → QueueSemantics P S → S → Type 0
JoinStaysNonempty {P} words streams = (pending other : P) → words.is_empty other streams ≡ false
    → words.is_empty (words.joined pending other) streams ≡ false

module _ {F K Q S M P : Type 0} (beginning : Beginning F K Q S M P) where
  abbrev pub ReportsSendable : History Q S M P → Event Q S M P → Reply Q → Type 0
  ReportsSendable history (QueueProbe space immediate streams) (Ok (answer.Sendable frames)) =
      ((frames.acks ≡ true) ↔ (IsRequired ((logs_of beginning history).spaces space)
      × ((n : ℕ) × WasReceived space n history × ¬ WasDropped space n history)))
      × (JoinStaysNonempty beginning.queue.words streams → frames.other ≡ true)
  ReportsSendable history event reply = Unit {0}
