use Rattle.std.proofs.Common.{[], ap, ◌∙◌}
use Rattle.std.specs.Option.{option_map_or}
use Rattle.recovery_spaces.specs.Spaces.{packets_of}
use Rattle.recovery_sender.proofs.RetransmitAllLaws.{least_tracked, none_tracked}
use Rattle.recovery_sender.proofs.sender.Sender.first_tracked.Goals as goal

pub returns-in_err-number : goal.returns-in_err-number
returns-in_err-number g c =
    let same = ap packets_of c.here.view_is ∙ ap (λ there. option_map_or packets_of there []) c.in_ok-here.ensures in
    rw (c.from_residual-in_err-number.ensures, ← same) (none_tracked _ c.args.from c.in_err-number.ensures.first)

pub returns : goal.returns
returns g c =
    let same = ap packets_of c.here.view_is ∙ ap (λ there. option_map_or packets_of there []) c.in_ok-here.ensures in
    rw (← same) (least_tracked _ c.args.from c.in_ok-number.number _ c.in_ok-number.ensures.first
    c.in_ok-number.ensures.lowest)
