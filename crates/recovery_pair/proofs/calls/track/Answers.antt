use Rattle.std.proofs.Common.{ℕ, refl, sym, subst, ap, ◌∙◌}
use Rattle.recovery_pair.specs.Flights.{counted_if}
use Rattle.recovery_pair.specs.Pasts.{Continues, SendsNumber}
use Rattle.recovery_pair.proofs.PacketLaws.{counted_once, sends_by_call}
use Rattle.recovery_pair.proofs.QuietLaws.{unsent_quietly}
use Rattle.recovery_events.specs.declared.event.Event.TheVariants.{Send}
use Rattle.recovery_pair.proofs.TimedLaws.{event_timer}
use Rattle.recovery_pair.proofs.ItemLaws.{failed_carries, send_carries}
use Rattle.recovery_pair.proofs.calls.track.Goals as goal

pub returns-in-Ok-Sent-clause-goes : goal.returns-in-Ok-Sent-clause-goes
returns-in-Ok-Sent-clause-goes g c =
    subst (λ (counted : ℕ). Continues (SendsNumber 0 counted c.args.eliciting c.args.space c.in-Ok-Sent.number
    c.args.largest c.args.now) c.args.sender.now c.send.new.self)
    (ap (counted_if c.args.eliciting) c.counted_if-counted.ensures ∙ counted_once c.args.eliciting c.args.size)
    (sends_by_call c.args.space c.args.now c.counted_if-counted.result c.args.eliciting c.args.largest c.args.queue _ _
    _ _ c.args.sender.now c.send.new.self
    (ap (counted_if c.args.eliciting) c.counted_if-counted.ensures ∙ counted_once c.args.eliciting c.args.size
    ∙ sym c.counted_if-counted.ensures) (rw c.in-Ok-Sent.field-0-is at c.in-Ok-Sent.ensures))

pub returns-in-Err-clause-goes : goal.returns-in-Err-clause-goes
returns-in-Err-clause-goes g c = unsent_quietly c.args.space c.args.now _ c.args.eliciting c.args.largest c.args.queue _
    c.args.sender.now c.send.new.self c.in-Err.refused c.in-Err.ensures

pub returns-in-Ok-Sent-clause-timer : goal.returns-in-Ok-Sent-clause-timer
returns-in-Ok-Sent-clause-timer g c = event_timer _ _ (Send c.args.space c.args.now _ c.args.eliciting c.args.largest
    c.args.queue tt) tt refl c.send.result
    c.send.ensures

pub returns-in-Err-clause-timer : goal.returns-in-Err-clause-timer
returns-in-Err-clause-timer g c = event_timer _ _ (Send c.args.space c.args.now _ c.args.eliciting c.args.largest
    c.args.queue tt) tt refl c.send.result
    c.send.ensures

pub returns-in-Ok-Sent-clause-items : goal.returns-in-Ok-Sent-clause-items
returns-in-Ok-Sent-clause-items g c = send_carries c.args.space c.args.now c.counted_if-counted.result
    c.args.eliciting c.args.largest c.args.queue _ _ _ _ c.args.sender.now c.send.new.self
    (rw c.in-Ok-Sent.field-0-is at c.in-Ok-Sent.ensures)

pub returns-in-Err-clause-items : goal.returns-in-Err-clause-items
returns-in-Err-clause-items g c = failed_carries (Send c.args.space c.args.now _ c.args.eliciting c.args.largest
    c.args.queue tt) _ _ (λ refusal. tt) refl c.in-Err.refused c.in-Err.ensures
