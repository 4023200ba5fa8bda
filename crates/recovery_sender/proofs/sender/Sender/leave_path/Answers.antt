use Rattle.std.proofs.Common.{sym}
use Rattle.recovery_events.specs.declared.event.Event.TheVariants.{NewPath}
use Rattle.recovery_sender.proofs.PathLaws.{left_alone}
use Rattle.recovery_sender.proofs.sender.Sender.leave_path.Goals as goal

pub returns : goal.returns
returns g c = left_alone c.args.self.now c.args.self.now c.apply.new.self
    (NewPath c.args.now c.args.remote c.args.fresh) (sym c.if-is_last_validated_previous.ensures) c.apply.result
    c.apply.ensures
