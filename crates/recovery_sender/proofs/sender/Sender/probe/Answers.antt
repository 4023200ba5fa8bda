use Rattle.std.proofs.Common.{[], ◌∷◌, sym, ◌∙◌}
use Rattle.recovery_sender.proofs.StepLaws.{does_behind, goes_on}
use Rattle.recovery_sender.proofs.sender.Sender.probe.Goals as goal

pub returns : goal.returns
returns g c = (
  sym c.is_discarded.ensures ∙ c.if-is_discarded.false,
  c.in_default.ensures.0,
  does_behind _ _ _ _
      (goes_on (_ ∷ []) _ _ _ _ c.in_default.ensures.1 c.take_pending-queue.ensures) c.set_loss_detection_timer.ensures,
)
