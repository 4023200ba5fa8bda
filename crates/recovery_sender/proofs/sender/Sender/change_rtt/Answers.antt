use Rattle.std.proofs.Common.{[], subst, ◌∙◌}
use Rattle.recovery_losses.specs.declared.variables.Variables.{Variables}
use Rattle.recovery_sender.specs.Steps.{CompletesCall}
use Rattle.recovery_sender.proofs.sender.Sender.change_rtt.Goals as goal

pub returns : goal.returns
returns g c = record {
  set = c.keep_variables.new.self;
  renewed = c.renew_loss_times.new.self;
  same = c.keep_variables.ensures.same;
  variables = c.keep_variables.ensures.variables;
  renews = c.renew_loss_times.ensures;
  does = subst (λ (kept : Variables). CompletesCall [] kept c.renew_loss_times.new.self
      c.set_loss_detection_timer.new.self)
      (c.renew_loss_times.ensures.goes.variables ∙ c.keep_variables.ensures.variables)
      c.set_loss_detection_timer.ensures;
}
