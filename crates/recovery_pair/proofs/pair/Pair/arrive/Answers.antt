use Rattle.std.proofs.Common.{length, ltb-true, Ok, Err, refl, sym}
use Rattle.recovery_pair.specs.declared.steps.PairAnswer.TheVariants.{Arrived, Nothing}
use Rattle.recovery_pair.specs.declared.steps.PairStep.TheVariants.{Arrive}
use Rattle.recovery_pair.proofs.ItemTies.{arrived_items, idle_items, same_items}
use Rattle.recovery_pair.proofs.QueueLaws.{same_queue, step_keeps, still_queue}
use Rattle.recovery_pair.proofs.StepTies.{arrives_at, beyond, held_turn, idle_step}
use Rattle.recovery_pair.proofs.TimedLaws.{timers_at, timers_still}
use Rattle.recovery_pair.proofs.LeastLaws.{least_at}
use Rattle.recovery_pair.proofs.pair.Pair.arrive.Goals as goal

pub returns-in_default-clause-keeps : goal.returns-in_default-clause-keeps
returns-in_default-clause-keeps g c = step_keeps _ _ _ _ _ _ _ _ _ _ _ _
    (idle_step _ _ _ _ _ _ refl tt tt
    (λ log listed. beyond c.args.self.now.wire.items log c.args.at c.args.now
    (rw (← c.deref.ensures.value) c.in_default.ensures.lookup.3) listed))
    tt tt tt tt (same_queue (Arrive c.args.at c.args.now) (Ok Nothing) (λ log end. record {
      handed_same = λ measure there. refl;
      sent_same = λ measure there. refl;
    }) (λ log. tt) _ _)
    (same_items _ _ _ _ tt tt tt (λ log. tt))

pub returns-in-Ok-clause-keeps : goal.returns-in-Ok-clause-keeps
returns-in-Ok-clause-keeps g c = step_keeps _ _ _ _ _ _ _ _ _ _ _ _
    (arrives_at c.args.at c.args.now c.in-Some.packet.now c.args.self.now.wire.items (rw (← c.deref.ensures.value)
    (ltb-true c.args.at (length c.deref.result.now) (sym c.in-Some.ensures.lookup.0))) (rw (← c.deref.ensures.value)
    c.in-Some.ensures.lookup.1) c.other-to.result c.in-Ok.fate _ _ _ _ c.other-to.ensures c.in-Ok.ensures.goes)
    tt tt tt tt (still_queue c.other-to.result (Arrive c.args.at c.args.now) (Ok (Arrived c.other-to.result
    c.in-Some.packet.now.space c.in-Some.packet.now.number c.in-Some.packet.now.size c.in-Ok.fate)) (λ log end. record {
      handed_same = λ measure there. refl;
      sent_same = λ
          measure there. refl;
    }) (λ log. tt) _ _ _ _
    c.in-Ok.ensures.waits)
    (arrived_items c.other-to.result c.args.at c.args.now c.in-Some.packet.now.space c.in-Some.packet.now.number
    c.in-Some.packet.now.size c.in-Ok.fate _ _ _ _ c.in-Ok.ensures.items)

pub returns-in-Err-clause-keeps : goal.returns-in-Err-clause-keeps
returns-in-Err-clause-keeps g c = step_keeps _ _ _ _ _ _ _ _ _ _ _ _
    (held_turn c.other-to.result _ _ _ _ _ _ _ _ refl tt tt
    (λ log listed. tt) c.in-Err.ensures.goes)
    tt tt tt tt (still_queue c.other-to.result (Arrive c.args.at c.args.now) (Err c.in-Err.refused) (λ log end. record {
      handed_same = λ measure there. refl;
      sent_same = λ measure there. refl;
    }) (λ log. tt) _ _ _ _
    c.in-Err.ensures.waits)
    (idle_items c.other-to.result _ _ _ _ _ _ tt tt tt (λ log. tt)
    c.in-Err.ensures.items)

pub returns-in-Ok-clause-timer_set : goal.returns-in-Ok-clause-timer_set
returns-in-Ok-clause-timer_set g c = timers_at c.other-to.result _ _ _ _ _ c.in-Ok.ensures.timer

pub returns-in-Err-clause-timer_set : goal.returns-in-Err-clause-timer_set
returns-in-Err-clause-timer_set g c = timers_still c.other-to.result _ _ _ _ c.in-Err.ensures.timer

pub returns-in-Ok-clause-least : goal.returns-in-Ok-clause-least
returns-in-Ok-clause-least g c = least_at c.other-to.result _ _ _ _ _ c.in-Ok.ensures.least
