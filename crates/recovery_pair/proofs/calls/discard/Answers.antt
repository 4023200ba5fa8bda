use Rattle.std.proofs.Common.{refl}
use Rattle.recovery_events.specs.declared.event.Answer.TheVariants.{Done}
use Rattle.recovery_losses.specs.Variables.{begun_anew}
use Rattle.recovery_pair.specs.Pasts.{discarding}
use Rattle.recovery_pair.proofs.GoingLaws.{discards_event}
use Rattle.recovery_pair.proofs.PacketLaws.{tries_event}
use Rattle.recovery_pair.proofs.TimedLaws.{tries_timer}
use Rattle.recovery_pair.proofs.ItemLaws.{tries_carries}
use Rattle.recovery_pair.proofs.calls.discard.Goals as goal

pub returns-clause-goes : goal.returns-clause-goes
returns-clause-goes g c = tries_event _ (discarding c.args.space)
    (begun_anew c.args.space c.args.now c.args.sender.now.variables) c.args.sender.now c.discard.new.self
    c.discard.result (λ past. discards_event past c.args.space Done) c.discard.ensures.steps c.discard.ensures.refused

pub returns-clause-timer : goal.returns-clause-timer
returns-clause-timer g c = tries_timer c.args.sender.now c.discard.new.self _ _ c.discard.result
    c.discard.ensures.steps c.discard.ensures.refused (λ done. refl)

pub returns-clause-items : goal.returns-clause-items
returns-clause-items g c = tries_carries _ _ c.args.sender.now c.discard.new.self c.discard.result (λ done. (tt, tt))
    c.discard.ensures.steps c.discard.ensures.refused
