use Rattle.recovery_sender.proofs.StepLaws.{does_behind}
use Rattle.recovery_sender.proofs.sender.Sender.on_address_validated.Goals as goal

pub returns : goal.returns
returns g c = does_behind _ _ _ _ c.validate.ensures c.set_loss_detection_timer.ensures
