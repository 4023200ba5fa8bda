use Rattle.recovery_pair.proofs.AlongLaws.{passes_so}
use Rattle.recovery_pair.proofs.QuietLaws.{ending_along}
use Rattle.recovery_pair.specs.Pasts.{no_endings}
use Rattle.std.proofs.Common.{refl}
use Rattle.recovery_events.specs.declared.event.Event.TheVariants.{AcksSent}
use Rattle.recovery_pair.proofs.TimedLaws.{event_timer}
use Rattle.recovery_pair.proofs.ItemLaws.{event_carries}
use Rattle.recovery_pair.proofs.calls.end_acks.Goals as goal

pub returns-clause-goes : goal.returns-clause-goes
returns-clause-goes g c = passes_so (ending_along no_endings) _ _
    (AcksSent c.args.space) (λ reply. tt) refl c.on_event.result c.on_event.ensures

pub returns-clause-timer : goal.returns-clause-timer
returns-clause-timer g c = event_timer _ _ (AcksSent c.args.space) tt refl
    c.on_event.result c.on_event.ensures

pub returns-clause-items : goal.returns-clause-items
returns-clause-items g c = event_carries (AcksSent c.args.space) _ _
    (λ reply. tt) refl
    c.on_event.result c.on_event.ensures
