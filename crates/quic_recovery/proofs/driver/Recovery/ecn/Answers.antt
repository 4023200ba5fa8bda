use Rattle.std.proofs.Common.{subst}
use Rattle.recovery_spaces.specs.Spaces.{Space}
use Rattle.recovery_history.proofs.ProbeStepLaws.{Stays, stays_balanced, fed_back_stays}
use Rattle.quic_recovery.proofs.driver.Recovery.ecn.Goals as goal

pub invariant_of-self : goal.invariant_of-self
invariant_of-self g c =
    let Kept : Space _ _ → Type 0 = λ there. Stays there c.detect_ecn.new.self in
    record {
      balanced = stays_balanced _ _ c.args.self.now.balanced _ _
          (subst Kept c.index_mut.ensures.value (fed_back_stays g.Q.RetransmitQueue.words _ _ _ _
          c.detect_ecn.ensures.step
          c.detect_ecn.ensures.err));
      limited = c.args.self.now.limited;
    }
