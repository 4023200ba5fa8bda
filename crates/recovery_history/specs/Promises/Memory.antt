-- An event fails with `NoMemory` only if it can allocate. What may grow is a set of numbers, the tracked packets, the
-- retransmission queue and the local IDs. A path that is not fresh needs a second controller.
use Rattle.std.specs.Prelude.{◌≡◌, Bool, true, false, not, Err}
use Rattle.recovery_events.specs.declared.event.Event.{Event}
use Rattle.recovery_events.specs.declared.event.Event.TheVariants.{Received, Send, Lost, IssueIds, PollMtu, QueueProbe, NewPath}
use Rattle.recovery_events.specs.declared.event.Refusal.TheVariants.{NoMemory}
use Rattle.recovery_history.specs.History.{Reply}

module _ {Q S M P : Type 0} where
  abbrev pub may_grow : Event Q S M P → Bool
  may_grow (Received space now number eliciting) = true
  may_grow (Send space now size eliciting largest queue frames) = true
  may_grow (Lost space number) = true
  may_grow (IssueIds now ids) = true
  may_grow (PollMtu now) = true
  may_grow (QueueProbe space immediate streams) = true
  may_grow (NewPath now remote is_fresh) = not is_fresh
  may_grow event = false

  abbrev pub AllocatesOnlyToGrow : Event Q S M P → Reply Q → Type 0
  AllocatesOnlyToGrow event (Err NoMemory) = may_grow event ≡ true
  AllocatesOnlyToGrow event reply = Unit {0}
