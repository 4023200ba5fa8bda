use Rattle.std.proofs.Common.{None, Some, ◌∙◌}
use Rattle.recovery_spaces.proofs.PacketLaws.{all_below}
use Rattle.recovery_spaces.proofs.TrackedLaws.{all_above, first_above, least_above}
use Rattle.recovery_spaces.proofs.sent_packets.first_silent.Goals as goal

pub returns-in_err-checked_add-in-Some-clause-first : goal.returns-in_err-checked_add-in-Some-clause-first
returns-in_err-checked_add-in-Some-clause-first g c =
    rw (c.in-Some.is, c.from_residual.ensures)
    (all_above c.in-Some.last c.in_err-checked_add-in-Some.ensures _ (all_below _ _ c.requires.small))

pub returns-in_ok-checked_add-in-Some-clause-first : goal.returns-in_ok-checked_add-in-Some-clause-first
returns-in_ok-checked_add-in-Some-clause-first g c =
    rw (c.in-Some.is, c.first_from.ensures.first, c.max.ensures, c.in_ok-checked_add-in-Some.ensures.1)
    (first_above (Some c.in-Some.last) c.args.from 0 _ (rw c.in-Some.is at c.requires.found)).0

pub returns-in_ok-checked_add-in-Some-clause-least : goal.returns-in_ok-checked_add-in-Some-clause-least
returns-in_ok-checked_add-in-Some-clause-least g c =
    rw c.in-Some.is
    (least_above (Some c.in-Some.last) c.args.from _ _
    (rw c.in-Some.is at c.requires.found)
    (rw (c.max.ensures, c.in_ok-checked_add-in-Some.ensures.1) at c.first_from.ensures.lowest))

pub returns-in-None-clause-first : goal.returns-in-None-clause-first
returns-in-None-clause-first g c = rw c.in-None.is (c.first_from-in-None.ensures.first
    ∙ (first_above None c.args.from 0 _ (rw c.in-None.is at c.requires.found)).0)

pub returns-in-None-clause-least : goal.returns-in-None-clause-least
returns-in-None-clause-least g c = rw c.in-None.is (least_above None c.args.from _ _
    (rw c.in-None.is at c.requires.found)
    c.first_from-in-None.ensures.lowest)
