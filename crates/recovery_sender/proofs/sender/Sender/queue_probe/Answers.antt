use Rattle.recovery_sender.proofs.CallLaws.{queued_by}
use Rattle.recovery_sender.proofs.sender.Sender.queue_probe.Goals as goal

pub returns : goal.returns
returns g c = rw c.done.ensures (queued_by _ _ _ _ _ c.apply.result c.requires.there c.apply.ensures)
