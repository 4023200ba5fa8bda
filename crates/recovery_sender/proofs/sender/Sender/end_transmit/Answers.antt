use Rattle.std.proofs.Common.{sym, refl, ◌∙◌}
use Rattle.recovery_sender.proofs.CallLaws.{none_waits}
use Rattle.recovery_sender.proofs.StepLaws.{does_as}
use Rattle.recovery_sender.proofs.sender.Sender.end_transmit.Goals as goal

pub returns-then-not-may_wait : goal.returns-then-not-may_wait
returns-then-not-may_wait g c = does_as _ _ _ _ _ refl
    (sym (none_waits c.args.space c.args.now c.args.in_flight c.args.sent.now c.args.self.now.variables
    (sym c.may_wait.ensures ∙ c.if-not-may_wait.true))) c.time_on.ensures

pub returns : goal.returns
returns g c = does_as _ _ _ _ _ (sym c.note_room.ensures.state) c.note_room.ensures.variables
    c.set_loss_detection_timer.ensures
