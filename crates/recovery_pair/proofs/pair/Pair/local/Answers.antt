use Rattle.recovery_pair.proofs.ItemTies.{local_items}
use Rattle.recovery_pair.proofs.QueueLaws.{local_known, local_queue, step_keeps}
use Rattle.recovery_pair.proofs.StepTies.{local_answer, local_step_at}
use Rattle.recovery_pair.proofs.TimedLaws.{timers_at}
use Rattle.recovery_pair.proofs.LeastLaws.{least_at}
use Rattle.recovery_pair.proofs.pair.Pair.local.Goals as goal

pub returns-clause-keeps : goal.returns-clause-keeps
returns-clause-keeps g c = step_keeps _ _ _ _ _ _ _ _ _ _ _ _
    (local_step_at c.args.end c.args.step c.local_at.result _ _ _ _ _ c.local_at.ensures.goes c.local_at.ensures.finds
    c.local_at.ensures.answer)
    (local_known c.args.end c.args.step c.local_at.result c.local_at.ensures.answer)
    tt tt c.local_at.ensures.asks
    (local_queue c.args.end c.args.step c.local_at.result (local_answer c.args.end c.args.step c.local_at.result
    c.local_at.ensures.answer) _ _ _ _
    c.local_at.ensures.waits)
    (local_items c.args.end c.args.step c.local_at.result _ _ _ _ c.local_at.ensures.items)

pub returns-clause-timer_set : goal.returns-clause-timer_set
returns-clause-timer_set g c = timers_at c.args.end _ _ _ _ _ c.local_at.ensures.timer

pub returns-clause-least : goal.returns-clause-least
returns-clause-least g c = least_at c.args.end _ _ _ _ _ c.local_at.ensures.least
