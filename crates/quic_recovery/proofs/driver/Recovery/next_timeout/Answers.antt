use Rattle.std.proofs.Common.{ap}
use Rattle.recovery_events.specs.declared.event.Answer.TheVariants.{Timeout}
use Rattle.recovery_history.proofs.TimeoutsLaws.{least_moment}
use Rattle.quic_recovery.proofs.driver.Recovery.next_timeout.Goals as goal

pub returns : goal.returns
returns g c = ap (λ least. Timeout least) (least_moment _ _ c.next_timeout.ensures)
