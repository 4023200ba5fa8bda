use Rattle.recovery_events.specs.declared.event.Event.TheVariants.{NewPath}
use Rattle.recovery_sender.specs.PathChanges.{is_last_validated_previous}
use Rattle.recovery_sender.specs.Senders.{state_in}
use Rattle.recovery_sender.proofs.PathLaws.{moves_on}
use Rattle.recovery_sender.proofs.sender.Sender.move_on.Goals as goal

pub returns-in-Ok : goal.returns-in-Ok
returns-in-Ok g c = (
  tt,
  moves_on c.args.self.now c.leave_path.new.self c.validate_own.new.self
      (is_last_validated_previous (state_in c.args.self.now)) (NewPath c.args.now c.args.remote c.args.fresh)
      c.in-Ok.answer c.in-Ok.ensures c.validate_own.ensures,
)
