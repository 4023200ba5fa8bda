use Rattle.std.proofs.Common.{◌<◌, ℕ, Ok, get_or}
use Rattle.recovery_events.specs.declared.event.Answer.TheVariants.{Done}
use Rattle.recovery_events.specs.declared.event.Event.TheVariants.{CheckAck}
use Rattle.quic_recovery.specs.State.{ReadOnlyTransition}
use Rattle.recovery_sender.proofs.sender.Sender.check_ranges.Given as goal

abbrev pub invariant-loop-low : goal.invariant-loop-low
invariant-loop-low g l = (at : ℕ) → at < l.low-index → (let range = get_or l.fn.ranges at (0, 0) in
    ReadOnlyTransition (CheckAck l.fn.space range.0 range.1) l.fn.self.recovery.recovery (Ok Done))
