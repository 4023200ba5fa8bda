use Rattle.recovery_sender.proofs.DueLaws.{waits_for_its_time}
use Rattle.recovery_sender.proofs.sender.Sender.on_timeout.Goals as goal

pub returns-clause-early : goal.returns-clause-early
returns-clause-early g c =
    waits_for_its_time c.args.now c.args.self.now c.act_on.new.self c.act_on.result c.act_on.ensures
