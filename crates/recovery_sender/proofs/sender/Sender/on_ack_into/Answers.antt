use Rattle.recovery_sender.proofs.PromiseLaws.{takes_ack}
use Rattle.recovery_sender.proofs.sender.Sender.on_ack_into.Goals as goal

pub returns : goal.returns
returns g c = takes_ack _ _ _ _ _ _ _ _ c.in-Ok.ensures c.on_newly_acked.ensures
