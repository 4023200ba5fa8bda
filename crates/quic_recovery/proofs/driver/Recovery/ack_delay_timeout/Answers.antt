use Rattle.std.proofs.Common.{refl}
use Rattle.recovery_history.proofs.ProbeStepLaws.{acks_balanced}
use Rattle.std.proofs.Common.{ap, ◌∙◌}
use Rattle.recovery_acks.specs.Acks.{Acks}
use Rattle.quic_recovery.proofs.driver.Recovery.ack_delay_timeout.Goals as goal

pub invariant_of-self : goal.invariant_of-self
invariant_of-self g c = record {
  balanced = acks_balanced _ _ c.args.self.now.balanced _ _ _ (c.behind-self.view_is ∙ c.index_mut.ensures.value)
      refl refl refl
      (ap (λ (a : Acks). a.counts.greatest) c.on_max_ack_delay_timeout.ensures.requires_one);
  limited = c.args.self.now.limited;
}
