use Rattle.std.proofs.Common.{refl, ap, ◌∙◌}
use Rattle.recovery_spaces.specs.Spaces.{space_hands_out}
use Rattle.recovery_history.proofs.ProbeStepLaws.{stays_balanced, stays_as}
use Rattle.quic_recovery.proofs.driver.Recovery.take_pending.Goals as goal

pub invariant_of-self-2 : goal.invariant_of-self-2
invariant_of-self-2 g c =
    let there = c.index_mut-here.ensures.value in
    let same = c.take_pending.ensures.step ∙ ap (space_hands_out g.Q.RetransmitQueue.words) there in
    record {
      balanced = stays_balanced _ _ c.args.self.now.balanced _ _ (stays_as _ _ _ same
          (record { tracking = refl; next = refl; acks = refl; dedup = refl }));
      limited = c.args.self.now.limited;
    }
