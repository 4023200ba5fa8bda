use Rattle.std.proofs.Common.{refl, ap, sym, ◌∙◌}
use Rattle.recovery_spaces.specs.Packets.{packet_at}
use Rattle.recovery_losses.proofs.DetectionPassLaws.{probe_tracked}
use Rattle.recovery_sender.proofs.LeadLaws.{packets_ended, packets_congested}
use Rattle.recovery_sender.proofs.DetectLaws.{detects_all, found_all}
use Rattle.recovery_sender.proofs.sender.Sender.remove_lost.Goals as goal

pub find_lost-tally-requires-clause-room : goal.find_lost-tally-requires-clause-room
find_lost-tally-requires-clause-room g c =
    rw c.look-look.ensures (c.requires.room c.args.largest c.requires.largest)

pub lose_probe-probe-requires : goal.lose_probe-probe-requires
lose_probe-probe-requires g c =
    let space = c.look-look.result.space in
    let found = c.find_lost-tally.ensures.looked in
    let shown = packets_congested space _ c.congested.new.self _ _ _ _ c.congested.ensures in
    let ends = packets_ended space _ _ _ _ _ c.losses_done-is_black_hole.ensures.goes in
    record {
      tracked = λ number is none. probe_tracked c.look-look.result _ _ _ _ _ found number is
          (sym (ap (λ packets. packet_at packets number) (shown ∙ ends)) ∙ none);
    }

pub returns : goal.returns
returns g c =
    let old = c.args.self.now in
    let is_look = c.look-look.ensures in
    detects_all c.args.space c.args.now c.args.at c.args.due_to_ack old _ _ c.args.largest c.requires.largest
    (found_all c.args.space c.args.now c.args.at c.args.due_to_ack old _ _ c.args.largest c.find_lost-tally.result
    c.find_lost-tally.new.self c.losses_done-is_black_hole.new.self c.congested.new.self c.lose_probe-probe.new.self
    c.lose_probe-probe.new.tally (rw is_look at c.find_lost-tally.ensures)
    (rw c.deref.ensures.value at c.losses_done-is_black_hole.ensures.goes)
    (rw c.deref.ensures.value at c.losses_done-is_black_hole.ensures.none) c.congested.ensures
    c.lose_probe-probe.ensures.lost (rw is_look at c.lose_probe-probe.ensures.kept)
    (rw is_look at c.lose_probe-probe.ensures.tries) c.set_loss_time.ensures c.congestion-congestion.ensures refl
    refl)
