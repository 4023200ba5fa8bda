use Rattle.recovery_sender.proofs.RenewLaws.{renewed}
use Rattle.recovery_sender.proofs.sender.Sender.renew_loss_times.Goals as goal

pub returns : goal.returns
returns g c =
    renewed c.args.self.now c.set_loss_time.new.self c.set_loss_time-2.new.self c.set_loss_time-3.new.self _ _ _
    c.next_loss-initial.ensures c.next_loss-handshake.ensures c.next_loss-data.ensures c.set_loss_time.ensures
    c.set_loss_time-2.ensures c.set_loss_time-3.ensures
