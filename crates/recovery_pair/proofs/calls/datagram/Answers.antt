use Rattle.std.proofs.Common.{refl}
use Rattle.recovery_events.specs.declared.event.Answer.TheVariants.{Done}
use Rattle.recovery_pair.specs.Pasts.{arriving}
use Rattle.recovery_pair.proofs.GoingLaws.{arrives_event}
use Rattle.recovery_pair.proofs.PacketLaws.{tries_event}
use Rattle.recovery_pair.proofs.TimedLaws.{tries_timer}
use Rattle.recovery_pair.proofs.ItemLaws.{tries_carries}
use Rattle.recovery_pair.proofs.calls.datagram.Goals as goal

pub returns-clause-goes : goal.returns-clause-goes
returns-clause-goes g c = rw (← c.from.ensures) (tries_event _ (arriving c.from.result) c.args.sender.now.variables
    c.args.sender.now c.on_datagram.new.self c.on_datagram.result (λ past. arrives_event past c.from.result Done)
    c.on_datagram.ensures.steps c.on_datagram.ensures.refused)

pub returns-clause-timer : goal.returns-clause-timer
returns-clause-timer g c = tries_timer c.args.sender.now c.on_datagram.new.self _ _ c.on_datagram.result
    c.on_datagram.ensures.steps c.on_datagram.ensures.refused (λ done. refl)

pub returns-clause-items : goal.returns-clause-items
returns-clause-items g c = tries_carries _ _ c.args.sender.now c.on_datagram.new.self c.on_datagram.result
    (λ done. (tt, tt)) c.on_datagram.ensures.steps c.on_datagram.ensures.refused
