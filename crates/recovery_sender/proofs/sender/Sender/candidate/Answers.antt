use Rattle.std.proofs.Common.{[], ap, ◌∙◌, arith}
use Rattle.std.specs.Option.{option_map_or}
use Rattle.recovery_spaces.specs.Spaces.{packets_of}
use Rattle.recovery_losses.proofs.LossLaws.{next_in, none_below}
use Rattle.recovery_sender.proofs.sender.Sender.candidate.Goals as goal

pub returns-in_err-number-clause-next : goal.returns-in_err-number-clause-next
returns-in_err-number-clause-next g c =
    let same = ap packets_of c.here.view_is ∙ ap (λ there. option_map_or packets_of there []) c.in_ok-here.ensures in
    rw (c.from_residual-in_err-number.ensures, ← same) (none_below c.args.look.now c.args.from _
    c.args.look.now.largest c.in_err-number.ensures.none (omega arith))

pub returns-clause-next : goal.returns-clause-next
returns-clause-next g c =
    let same = ap packets_of c.here.view_is ∙ ap (λ there. option_map_or packets_of there []) c.in_ok-here.ensures in
    let is = c.packet.view_is in
    rw (← same) (next_in c.args.look.now c.args.from _ c.in_ok-number.packet.now _ (record {
      time_sent = ap (λ packet. packet.time_sent) is;
      size = ap (λ packet. packet.size) is;
      ack_eliciting = ap (λ packet. packet.ack_eliciting) is;
      path_generation = ap (λ packet. packet.path_generation) is;
    }) c.in_ok-number.ensures.first.1 c.in_ok-number.ensures.lowest c.in_ok-number.ensures.first.0)
