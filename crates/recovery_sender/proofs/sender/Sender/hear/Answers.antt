use Rattle.std.proofs.Common.{refl}
use Rattle.recovery_sender.proofs.StepLaws.{does_as}
use Rattle.recovery_sender.proofs.sender.Sender.hear.Goals as goal

pub returns : goal.returns
returns g c = does_as _ _ _ _ _ refl (rw c.sample.ensures at c.hear.ensures) c.set_loss_detection_timer.ensures
