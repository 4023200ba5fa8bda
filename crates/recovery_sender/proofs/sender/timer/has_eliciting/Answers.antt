use Rattle.std.proofs.Common.{ap, ◌∙◌}
use Rattle.recovery_spaces.specs.Spaces.{packets_of}
use Rattle.recovery_sender.specs.Timer.{has_eliciting}
use Rattle.recovery_sender.proofs.TimerLaws.{eliciting_found}
use Rattle.recovery_sender.proofs.sender.timer.has_eliciting.Goals as goal

pub returns : goal.returns
returns g c = eliciting_found _ _ c.has_ack_eliciting.ensures
    ∙ ap (λ here. has_eliciting (packets_of here)) c.here.view_is
