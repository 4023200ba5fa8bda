use Rattle.std.proofs.Common.{[], ap, sym, ◌∙◌, arith}
use Rattle.std.specs.Option.{option_and_then, option_map_or}
use Rattle.std.proofs.lemmas.Option.{same_Some}
use Rattle.recovery_spaces.specs.Packets.{packet_at}
use Rattle.recovery_spaces.specs.Spaces.{packets_of}
use Rattle.recovery_losses.proofs.LossLaws.{lowest_from}
use Rattle.recovery_sender.proofs.sender.Sender.gap.Goals as goal

pub returns-in_err-tracked_between-clause-none : goal.returns-in_err-tracked_between-clause-none
returns-in_err-tracked_between-clause-none g c =
    let same = ap packets_of c.here.view_is ∙ ap (λ there. option_map_or packets_of there []) c.in_ok-here.ensures in
    rw c.from_residual-in_err-tracked_between.ensures (λ largest is number packet there below.
    let least = lowest_from 0 c.in_ok-largest.largest _ c.in_err-tracked_between.ensures.none number packet
    (ap (λ packets. packet_at packets number) same ∙ there) (omega arith) in
    let known = ap (λ here. here.largest_acked_packet) c.here.view_is
    ∙ ap (λ there. option_and_then (λ here. here.largest_acked_packet) there) c.in_ok-here.ensures ∙ is in
    let one = same_Some c.in_ok-largest.largest largest (sym c.in_ok-largest.was ∙ known) in
    absurd (omega (arith, least, below, one)))
