use Rattle.recovery_schedule.proofs.StepLaws.{hand_says, no_end, no_items, no_space}
use Rattle.recovery_schedule.proofs.lines.hand.Goals as goal

pub returns-in_default : goal.returns-in_default
returns-in_default c = no_end _ c.in_default.ensures

pub returns-in_default-space : goal.returns-in_default-space
returns-in_default-space c = no_space _ c.in-Some.end _ c.in-Some.ensures c.in_default-space.ensures

pub returns-in-Some-2 : goal.returns-in-Some-2
returns-in-Some-2 c =
    hand_says _ c.in-Some.end _ c.in-Some.ensures c.in-Some-space.space _ c.in-Some-space.ensures c.in-Some-2.items _
    (rw (c.in-Some-2.is) at c.in_ok-items.ensures.found)

pub returns-in-None : goal.returns-in-None
returns-in-None c =
    no_items _ c.in-Some.end _ c.in-Some.ensures c.in-Some-space.space _ c.in-Some-space.ensures
    (rw (c.in-None.is) at c.in_ok-items.ensures.found)
