use Rattle.recovery_spaces.specs.Probes.{probe_found}
use Rattle.recovery_spaces.specs.Spaces.{space_of, packets_of}
use Rattle.recovery_history.proofs.ProbeStepLaws.{probe_balanced}
use Rattle.quic_recovery.proofs.driver.Recovery.queue_probe.Goals as goal

pub invariant_of-self : goal.invariant_of-self
invariant_of-self g c =
    let there = space_of c.args.space c.args.self.now.spaces in
    record {
      balanced = probe_balanced _ _ c.args.self.now.balanced g.Q.RetransmitQueue.words _ c.args.immediate_ack
          (probe_found g.Q.RetransmitQueue.words c.args.streams there.pending (packets_of there)) _ _
          (rw c.index_mut.ensures.value at c.queue_probe.ensures.step)
          (rw c.index_mut.ensures.value at c.queue_probe.ensures.err);
      limited = c.args.self.now.limited;
    }
