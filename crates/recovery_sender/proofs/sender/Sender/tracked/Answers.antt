use Rattle.std.proofs.Common.{[], ap, ◌∙◌}
use Rattle.std.specs.Option.{option_map_or}
use Rattle.recovery_spaces.specs.Spaces.{packets_of}
use Rattle.recovery_spaces.specs.Packets.{packet_at}
use Rattle.recovery_sender.proofs.sender.Sender.tracked.Goals as goal

pub returns : goal.returns
returns g c =
    c.get.ensures ∙ ap (λ packets. packet_at packets c.args.number)
    (ap packets_of c.here.view_is ∙ ap (λ there. option_map_or packets_of there []) c.in_ok-here.ensures)
