use Rattle.std.proofs.Common.{sym, ap, ◌∙◌}
use Rattle.recovery_spaces.specs.Spaces.{packets_of}
use Rattle.recovery_spaces.proofs.CoherentLaws.{coherent_lost}
use Rattle.recovery_paths.proofs.BalanceLaws.{paths_balanced_lost, lost_counted_on}
use Rattle.quic_recovery.proofs.driver.Recovery.lost.Goals as goal

pub on_packet_lost-probe-requires : goal.on_packet_lost-probe-requires
on_packet_lost-probe-requires g c =
    lost_counted_on _ _ c.args.self.now.balanced _ _ _ _
    (rw c.index_mut-here.ensures.value at (sym c.in-Ok-Some.ensures.packet ∙ c.in-Ok-Some.field-0-is))

pub invariant_of-self-in-Ok-Some : goal.invariant_of-self-in-Ok-Some
invariant_of-self-in-Ok-Some g c =
    let balanced = c.args.self.now.balanced in
    let there = c.index_mut-here.ensures.value in
    let handed = rw there at (sym c.in-Ok-Some.ensures.packet ∙ c.in-Ok-Some.field-0-is) in
    let left = rw there at c.in-Ok-Some.ensures.step in
    record {
      balanced = rw c.on_packet_lost-probe.ensures.after
          (paths_balanced_lost _ _ balanced _ _ _ _ _ handed (ap packets_of left)
          (rw left (coherent_lost g.Q.RetransmitQueue.words _ (balanced.coherent c.args.space) c.args.number)));
      limited = c.args.self.now.limited;
    }
