use Rattle.std.proofs.Common.{false, None, refl}
use Rattle.recovery_sender.proofs.BoundLaws.{made_in_bounds}
use Rattle.recovery_sender.proofs.SampleLaws.{made_explained}
use Rattle.recovery_sender.proofs.StepLaws.{does_as}
use Rattle.recovery_sender.proofs.sender.Sender.new.Goals as goal

pub returns-clause-begins : goal.returns-clause-begins
returns-clause-begins g c = record {
  made = record {
    alloc = c.args.alloc;
    recovery = c.in_ok-recovery.recovery;
    variables = c.new-2.result;
    is_timer_current = false;
    known_pto = None;
    bounded = made_in_bounds c.in_ok-recovery.recovery.recovery _ _ _
        g.met.F.Controller.Controller.laws g.met.F.ControllerFactory.starts_by_now
        c.nanosecond_before.ensures.early c.in_ok-recovery.ensures.came;
    explained = made_explained c.in_ok-recovery.recovery.recovery _ _ _ c.in_ok-recovery.ensures.came
        c.in_ok-recovery.ensures.marks;
    timed = λ is. absurd cc;
    known = λ is. absurd cc;
  };
  came = rw (c.config_of.ensures, c.nanosecond_before.ensures.value) at c.in_ok-recovery.ensures.came;
  marks = c.in_ok-recovery.ensures.marks;
  loss_times = c.in_ok-recovery.ensures.loss_times;
  does = does_as _ _ _ _ _ refl (rw c.thresholds_of-thresholds.ensures at c.new-2.ensures)
      c.set_loss_detection_timer.ensures;
}

pub invariant_of-sender-clause-bounded : goal.invariant_of-sender-clause-bounded
invariant_of-sender-clause-bounded g c = made_in_bounds c.in_ok-recovery.recovery.recovery _ _ _
    g.met.F.Controller.Controller.laws g.met.F.ControllerFactory.starts_by_now
    c.nanosecond_before.ensures.early c.in_ok-recovery.ensures.came

pub invariant_of-sender-clause-explained : goal.invariant_of-sender-clause-explained
invariant_of-sender-clause-explained g c = made_explained c.in_ok-recovery.recovery.recovery _ _ _
    c.in_ok-recovery.ensures.came c.in_ok-recovery.ensures.marks
