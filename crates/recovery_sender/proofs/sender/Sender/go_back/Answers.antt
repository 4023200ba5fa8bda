use Rattle.recovery_sender.proofs.PathLaws.{went_back}
use Rattle.recovery_sender.proofs.sender.Sender.go_back.Goals as goal

pub returns : goal.returns
returns g c = went_back c.args.self.now c.args.self.now c.tell.new.self c.tell.result c.tell.ensures
