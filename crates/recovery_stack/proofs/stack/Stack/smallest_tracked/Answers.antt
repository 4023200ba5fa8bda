use Rattle.std.proofs.Common.{ap}
use Rattle.recovery_spaces.specs.Spaces.{packets_of}
use Rattle.recovery_sender.proofs.RetransmitAllLaws.{least_tracked, none_tracked}
use Rattle.recovery_stack.proofs.stack.Stack.smallest_tracked.Goals as goal

pub returns-in_err-number : goal.returns-in_err-number
returns-in_err-number c =
    let same = ap packets_of c.space.view_is in
    rw (c.from_residual-in_err-number.ensures, ← c.in_ok-space.ensures, ← same)
    (none_tracked _ 0 c.in_err-number.ensures.first)

pub returns : goal.returns
returns c =
    let same = ap packets_of c.space.view_is in
    rw (← c.in_ok-space.ensures, ← same)
    (least_tracked _ 0 c.in_ok-number.number _ c.in_ok-number.ensures.first c.in_ok-number.ensures.lowest)
