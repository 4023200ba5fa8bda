use Rattle.recovery_sender.proofs.LeadLaws.{occurred}
use Rattle.recovery_sender.proofs.sender.Sender.end_acks.Goals as goal

pub returns : goal.returns
returns g c = rw (← c.largest_acked-largest.ensures) (occurred _ _ _ _ c.tell_end_acks.ensures)
