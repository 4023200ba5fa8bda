use Rattle.recovery_sender.proofs.PathLaws.{switched}
use Rattle.recovery_sender.proofs.sender.Sender.switch_path.Goals as goal

pub returns-in_default : goal.returns-in_default
returns-in_default g c = switched c.args.self.now c.args.self.now c.apply.new.self c.args.event
    c.in_default.not-NewPath c.in_default.not-RevertPath c.apply.result c.apply.ensures
