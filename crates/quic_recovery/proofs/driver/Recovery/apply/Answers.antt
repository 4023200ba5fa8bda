use Rattle.recovery_history.proofs.ReachabilityLaws.{extends}
use Rattle.quic_recovery.proofs.driver.Recovery.apply.Goals as goal

pub returns-clause-extends : goal.returns-clause-extends
returns-clause-extends g c = λ config start random past came.
    extends _ past _ _ _ _ came c.handle.ensures c.handle.new.self.balanced
