use Rattle.recovery_history.proofs.ReachabilityLaws.{still_came, extended}
use Rattle.quic_recovery.proofs.live.LiveRecovery.apply.Goals as goal

pub invariant_of-self : goal.invariant_of-self
invariant_of-self g c = record { came = still_came c.apply.ensures.extends c.args.self.now.came }

pub returns-clause-extended : goal.returns-clause-extended
returns-clause-extended g c = extended c.apply.ensures.extends c.args.self.now.came
