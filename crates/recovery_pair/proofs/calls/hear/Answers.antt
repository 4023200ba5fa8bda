use Rattle.recovery_pair.proofs.PacketLaws.{dropped_by_call, heard_by_call}
use Rattle.std.proofs.Common.{refl}
use Rattle.recovery_events.specs.declared.event.Event.TheVariants.{Received}
use Rattle.recovery_pair.proofs.TimedLaws.{event_timer}
use Rattle.recovery_pair.proofs.ItemLaws.{event_carries}
use Rattle.recovery_pair.proofs.calls.hear.Goals as goal

pub returns-in-Ok-clause-goes : goal.returns-in-Ok-clause-goes
returns-in-Ok-clause-goes g c = rw c.arm_of.ensures (heard_by_call c.args.space c.args.now c.args.number
    c.args.eliciting
    c.in-Ok.answer _ c.args.sender.now c.on_event.new.self c.in-Ok.ensures)

pub returns-in-Err-clause-goes : goal.returns-in-Err-clause-goes
returns-in-Err-clause-goes g c = dropped_by_call c.args.space c.args.now c.args.number c.args.eliciting c.in-Err.refused
    c.args.sender.now
    c.on_event.new.self c.in-Err.ensures

pub returns-in-Ok-clause-timer : goal.returns-in-Ok-clause-timer
returns-in-Ok-clause-timer g c = event_timer _ _ (Received c.args.space c.args.now c.args.number c.args.eliciting) tt
    refl c.on_event.result c.on_event.ensures

pub returns-in-Err-clause-timer : goal.returns-in-Err-clause-timer
returns-in-Err-clause-timer g c = event_timer _ _ (Received c.args.space c.args.now c.args.number c.args.eliciting) tt
    refl c.on_event.result c.on_event.ensures

pub returns-in-Ok-clause-items : goal.returns-in-Ok-clause-items
returns-in-Ok-clause-items g c = event_carries (Received c.args.space c.args.now c.args.number c.args.eliciting) _ _ (λ
    reply. tt) refl c.on_event.result c.on_event.ensures

pub returns-in-Err-clause-items : goal.returns-in-Err-clause-items
returns-in-Err-clause-items g c = event_carries (Received c.args.space c.args.now c.args.number c.args.eliciting) _ _ (λ
    reply. tt) refl c.on_event.result c.on_event.ensures
