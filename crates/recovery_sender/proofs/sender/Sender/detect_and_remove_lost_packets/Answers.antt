use Rattle.recovery_sender.proofs.DetectLaws.{detects_none}
use Rattle.recovery_sender.proofs.sender.Sender.detect_and_remove_lost_packets.Goals as goal

pub returns-in_default : goal.returns-in_default
returns-in_default g c = detects_none c.args.space c.args.now c.args.at c.args.due_to_ack c.args.self.now c.none.result
    _
    c.in_default.ensures.none c.none.ensures c.set_loss_time.ensures
