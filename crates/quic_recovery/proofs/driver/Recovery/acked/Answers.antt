use Rattle.std.proofs.Common.{sym, ap, ◌∙◌}
use Rattle.recovery_spaces.specs.Packets.{Tracking}
use Rattle.recovery_spaces.specs.Spaces.{tracking_of, next_number_of, space_takes}
use Rattle.recovery_spaces.proofs.SpaceAckLaws.{acked_greatest}
use Rattle.recovery_spaces.proofs.AmongLaws.{acknowledging_found}
use Rattle.recovery_spaces.proofs.CoherentLaws.{coherent_taken}
use Rattle.recovery_paths.proofs.BalanceLaws.{counted, paths_balanced_acked}
use Rattle.recovery_history.proofs.AckedLostLaws.{acked_changes}
use Rattle.quic_recovery.proofs.driver.Recovery.acked.Goals as goal

pub on_packet_acked-probe-requires : goal.on_packet_acked-probe-requires
on_packet_acked-probe-requires g c =
    counted _ _ c.args.self.now.balanced _ _ _
    (rw c.index_mut-here.ensures.value at (sym c.take.ensures.packet ∙ c.in-Some.is))

pub on_acked-requires : goal.on_acked-requires
on_acked-requires g c =
    acknowledging_found _ (c.args.self.now.balanced.coherent c.args.space).acknowledging _ _
    (rw c.index_mut-here.ensures.value at (sym c.take.ensures.packet ∙ c.in-Some.is))

pub invariant_of-self-2 : goal.invariant_of-self-2
invariant_of-self-2 g c =
    let balanced = c.args.self.now.balanced in
    let there = c.index_mut-here.ensures.value in
    let found = rw there at (sym c.take.ensures.packet ∙ c.in-Some.is) in
    let others = rw (c.take.ensures.after, there) at c.on_acked.ensures.others in
    let tracking = ap tracking_of others in
    let come = acked_greatest _ c.in-Some.packet c.take.new.self _
    (rw (c.take.ensures.after, there) (balanced.coherent c.args.space).received)
    c.on_acked.ensures.subtracts c.on_acked.ensures.others in
    let coherent = coherent_taken _ _ (balanced.coherent c.args.space) come _ tracking (ap next_number_of others) in
    record {
      balanced = rw c.on_packet_acked-probe.ensures.after
          (paths_balanced_acked _ _ balanced _ _ _ _ found (ap (λ (t : Tracking _ _). t.packets) tracking) coherent
          g.F.Controller.Controller.words c.args.now c.args.app_limited);
      limited = c.args.self.now.limited;
    }

pub returns : goal.returns
returns g c =
    let there = c.index_mut-here.ensures.value in
    let found = rw there at (sym c.take.ensures.packet ∙ c.in-Some.is) in
    let taken = c.take.ensures.after ∙ ap (space_takes c.args.number) there in
    acked_changes _ _ _ _ _ _ _ _ (sym c.if-contains.ensures) found
    c.on_packet_acked-probe.ensures.probe _ _
    (record {
      packet = c.in-Some.packet;
      found = found;
      subtracts = rw taken at c.on_acked.ensures.subtracts;
      others = rw taken at c.on_acked.ensures.others;
    })
    c.on_packet_acked-probe.ensures.after
