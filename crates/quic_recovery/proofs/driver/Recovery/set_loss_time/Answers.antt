use Rattle.std.proofs.Common.{ap, ◌∙◌}
use Rattle.recovery_spaces.specs.Spaces.{tracking_of, next_number_of, acks_of}
use Rattle.recovery_history.proofs.LossTimeLaws.{reached_with_loss_time}
use Rattle.recovery_history.proofs.ProbeStepLaws.{stays_balanced}
use Rattle.quic_recovery.proofs.driver.Recovery.set_loss_time.Goals as goal

pub invariant_of-self : goal.invariant_of-self
invariant_of-self g c =
    let is = c.behind-self.view_is ∙ c.index_mut.ensures.value in
    record {
      balanced = stays_balanced _ _ c.args.self.now.balanced _ _ (record {
        tracking = ap tracking_of is;
        next = ap next_number_of is;
        acks = ap acks_of is;
        dedup = ap (λ space. space.dedup) is;
      });
      limited = c.args.self.now.limited;
    }

pub returns-then-not-contains-clause-came : goal.returns-then-not-contains-clause-came
returns-then-not-contains-clause-came g c = λ config start random past.
    reached_with_loss_time _ past c.args.space c.args.time _ _ (c.behind-self.view_is ∙ c.index_mut.ensures.value)
