use Rattle.std.proofs.Common.{sym, ◌∙◌}
use Rattle.recovery_sender.proofs.sender.Sender.set_loss_detection_timer.Goals as goal

pub set_timer_to-requires : goal.set_timer_to-requires
set_timer_to-requires g c = record {
  due = c.due_by-due.ensures;
  known = λ pto is. sym c.only_pto-known.ensures ∙ is;
}
