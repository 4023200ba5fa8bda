use Rattle.recovery_sender.proofs.AttemptLaws.{refused_so}
use Rattle.recovery_sender.proofs.LeadLaws.{occurred}
use Rattle.recovery_sender.proofs.sender.Sender.declare_lost.Goals as goal

pub returns-in_default : goal.returns-in_default
returns-in_default g c =
    refused_so c.args.space c.args.number c.args.self.now c.requires.tracked _ _ c.in_default.ensures

pub returns : goal.returns
returns g c = occurred _ _ _ _ c.in-Ok.ensures
