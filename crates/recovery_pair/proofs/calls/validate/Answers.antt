use Rattle.recovery_events.specs.declared.event.Answer.TheVariants.{Done}
use Rattle.recovery_pair.specs.Pasts.{validating}
use Rattle.recovery_pair.proofs.GoingLaws.{validates_event}
use Rattle.recovery_pair.proofs.PacketLaws.{makes_event}
use Rattle.std.proofs.Common.{refl}
use Rattle.recovery_pair.proofs.ItemLaws.{call_carries}
use Rattle.recovery_pair.proofs.TimedLaws.{call_timer}
use Rattle.recovery_pair.proofs.calls.validate.Goals as goal

pub returns-clause-goes : goal.returns-clause-goes
returns-clause-goes g c = makes_event _ validating c.args.sender.now.variables c.args.sender.now
    c.on_address_validated.new.self
    (λ past. validates_event past Done) c.on_address_validated.ensures

pub returns-clause-timer : goal.returns-clause-timer
returns-clause-timer g c = call_timer c.args.sender.now c.on_address_validated.new.self (λ known. known)
    c.args.sender.now _ c.args.sender.now.variables c.on_address_validated.ensures refl

pub returns-clause-items : goal.returns-clause-items
returns-clause-items g c = call_carries _ _ c.args.sender.now c.on_address_validated.new.self
    c.on_address_validated.ensures (tt, tt)
