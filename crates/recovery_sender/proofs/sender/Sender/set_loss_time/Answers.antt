use Rattle.quic_recovery.specs.State.{state_of}
use Rattle.recovery_sender.specs.Senders.{state_in}
use Rattle.std.proofs.Common.{ap, ◌∙◌}
use Rattle.recovery_history.specs.RecoveryState.{RecoveryState}
use Rattle.recovery_sender.proofs.BoundLaws.{loss_time_keeps, loss_time_paths}
use Rattle.recovery_sender.proofs.SampleLaws.{still_explained}
use Rattle.recovery_sender.proofs.sender.Sender.set_loss_time.Goals as goal

pub invariant_of-self-clause-bounded : goal.invariant_of-self-clause-bounded
invariant_of-self-clause-bounded g c = loss_time_keeps g.F.Controller.Controller.words c.args.space c.args.time
    (state_in c.args.self.now) (state_of c.set_loss_time.new.self.recovery) c.set_loss_time.ensures.after
    c.args.self.now.bounded

pub invariant_of-self-clause-explained : goal.invariant_of-self-clause-explained
invariant_of-self-clause-explained g c =
    still_explained (state_in c.args.self.now) (state_of c.set_loss_time.new.self.recovery) c.set_loss_time.ensures.came
    (ap (λ (recovery : RecoveryState _ _ _). recovery.paths) c.set_loss_time.ensures.after
    ∙ loss_time_paths c.args.space c.args.time (state_in c.args.self.now)) c.args.self.now.explained
