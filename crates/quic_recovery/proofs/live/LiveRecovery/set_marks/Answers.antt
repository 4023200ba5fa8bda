use Rattle.recovery_history.proofs.ReachabilityLaws.{stays_come}
use Rattle.quic_recovery.proofs.live.LiveRecovery.set_marks.Goals as goal

pub invariant_of-self : goal.invariant_of-self
invariant_of-self g c = record { came = stays_come c.set_marks.ensures.came c.args.self.now.came }
