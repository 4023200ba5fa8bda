use Rattle.std.proofs.Common.{Ok, Err, inl, refl}
use Rattle.recovery_events.specs.declared.event.Refusal.TheVariants.{NoMemory}
use Rattle.recovery_sender.specs.declared.sender.SenderError.TheVariants.{Event}
use Rattle.recovery_pair.specs.declared.steps.PairAnswer.TheVariants.{Failed, Held, Nothing, Sent}
use Rattle.recovery_pair.specs.declared.steps.PairStep.TheVariants.{Send}
use Rattle.recovery_pair.specs.Logs.{ack_of}
use Rattle.recovery_pair.proofs.FilledLaws.{fills_nothing}
use Rattle.recovery_pair.proofs.DeadlockLaws.{held_at}
use Rattle.recovery_pair.proofs.ItemTies.{failed_items, idle_items, nothing_items, same_items, sent_items}
use Rattle.recovery_pair.proofs.PermitLaws.{permits_none}
use Rattle.recovery_pair.proofs.QueueLaws.{nothing_queue, same_queue, sent_queue, step_keeps, still_queue}
use Rattle.recovery_pair.proofs.StepTies.{held_turn, idle_step, send_turn}
use Rattle.recovery_pair.proofs.TimedLaws.{timers_still}
use Rattle.recovery_pair.proofs.pair.Pair.send.Goals as goal

pub returns-in-Ok-Sent-clause-permits : goal.returns-in-Ok-Sent-clause-permits
returns-in-Ok-Sent-clause-permits g c =
    rw c.sent_ack-ack.ensures (rw c.in-Ok-Sent.field-0-is at c.in-Ok-Sent.ensures.permits)

pub returns-in-Ok-Nothing-clause-permits : goal.returns-in-Ok-Nothing-clause-permits
returns-in-Ok-Nothing-clause-permits g c = rw c.in-Ok-Nothing.field-0-is at c.in-Ok-Nothing.ensures.permits

pub returns-in-Ok-Held-clause-permits : goal.returns-in-Ok-Held-clause-permits
returns-in-Ok-Held-clause-permits g c = rw c.in-Ok-Held.field-0-is at c.in-Ok-Held.ensures.permits

pub returns-in-Ok-Failed-clause-permits : goal.returns-in-Ok-Failed-clause-permits
returns-in-Ok-Failed-clause-permits g c = rw c.in-Ok-Failed.field-0-is at c.in-Ok-Failed.ensures.permits

pub returns-in-Err-send_from-clause-permits : goal.returns-in-Err-send_from-clause-permits
returns-in-Err-send_from-clause-permits g c = c.in-Err-send_from.ensures.permits

pub returns-in-Err-clause-permits : goal.returns-in-Err-clause-permits
returns-in-Err-clause-permits g c = permits_none c.args.end c.args.space c.args.now c.args.size (Err (Event NoMemory)) _
    _ (λ Idle in_flight checked said. inl refl)

pub returns-in-Ok-Sent-clause-keeps : goal.returns-in-Ok-Sent-clause-keeps
returns-in-Ok-Sent-clause-keeps g c = rw c.sent_ack-ack.ensures (step_keeps _ _ _ _ _ _ _ _ _ _ _ _
    (send_turn c.args.end c.args.space c.args.now c.args.size c.in-Ok-Sent.packet c.in-Ok-Sent.items c.in-Ok-Sent.window
    _ _ _ _ _ _
    (rw c.in-Ok.ensures.items at c.push_reserved.ensures.items)
    (rw c.in-Ok-Sent.field-0-is at c.in-Ok-Sent.ensures.goes))
    tt (rw c.in-Ok-Sent.field-0-is at c.in-Ok-Sent.ensures.filled)
    (returns-in-Ok-Sent-clause-permits g c) tt
    (sent_queue c.args.end c.args.space c.args.now c.args.size c.in-Ok-Sent.packet.number c.in-Ok-Sent.items
    c.in-Ok-Sent.packet.eliciting c.in-Ok-Sent.window (ack_of c.in-Ok-Sent.packet) _ _ _ _
    (rw c.in-Ok-Sent.field-0-is at c.in-Ok-Sent.ensures.waits))
    (sent_items c.args.end c.args.space c.args.now c.args.size c.in-Ok-Sent.packet.number c.in-Ok-Sent.items
    c.in-Ok-Sent.packet.eliciting c.in-Ok-Sent.window (ack_of c.in-Ok-Sent.packet) _ _ _ _ (rw c.in-Ok-Sent.field-0-is
    at c.in-Ok-Sent.ensures.items)))

pub returns-in-Ok-Nothing-clause-keeps : goal.returns-in-Ok-Nothing-clause-keeps
returns-in-Ok-Nothing-clause-keeps g c = step_keeps _ _ _ _ _ _ _ _ _ _ _ _
    (held_turn c.args.end _ _ _ _ _ _ _ _
    c.in-Ok.ensures.items tt tt (λ log listed. tt) (rw c.in-Ok-Nothing.field-0-is at c.in-Ok-Nothing.ensures.goes))
    tt (fills_nothing c.args.end _ _) (returns-in-Ok-Nothing-clause-permits g c) tt
    (nothing_queue c.args.end c.args.space c.args.now c.args.size _ _ _ _
    (rw c.in-Ok-Nothing.field-0-is at c.in-Ok-Nothing.ensures.waits))
    (nothing_items c.args.end c.args.space c.args.now c.args.size _ _ _ _
    (rw c.in-Ok-Nothing.field-0-is at c.in-Ok-Nothing.ensures.permits)
    (rw c.in-Ok-Nothing.field-0-is at c.in-Ok-Nothing.ensures.waits)
    (rw c.in-Ok-Nothing.field-0-is at c.in-Ok-Nothing.ensures.items))

pub returns-in-Ok-Held-clause-keeps : goal.returns-in-Ok-Held-clause-keeps
returns-in-Ok-Held-clause-keeps g c = step_keeps _ _ _ _ _ _ _ _ _ _ _ _
    (held_turn c.args.end _ _ _ _ _ _ _ _
    c.in-Ok.ensures.items tt tt (λ log listed. tt) (rw c.in-Ok-Held.field-0-is at c.in-Ok-Held.ensures.goes))
    tt (fills_nothing c.args.end _ _) (returns-in-Ok-Held-clause-permits g c) tt
    (still_queue c.args.end (Send c.args.end c.args.space c.args.now c.args.size) (Ok (Held c.in-Ok-Held.held)) (λ
    log end. record {
      handed_same = λ measure there. refl;
      sent_same = λ measure
          there. refl;
    }) (λ log. tt) _ _ _ _
    (rw c.in-Ok-Held.field-0-is at c.in-Ok-Held.ensures.waits))
    (idle_items c.args.end _ _ _ _
    _ _ tt tt tt (λ log. tt) (rw c.in-Ok-Held.field-0-is at c.in-Ok-Held.ensures.items))

pub returns-in-Ok-Failed-clause-keeps : goal.returns-in-Ok-Failed-clause-keeps
returns-in-Ok-Failed-clause-keeps g c = step_keeps _ _ _ _ _ _ _ _ _ _ _ _
    (held_turn c.args.end _ _ _ _ _ _ _ _
    c.in-Ok.ensures.items tt tt (λ log listed. tt) (rw c.in-Ok-Failed.field-0-is at c.in-Ok-Failed.ensures.goes))
    tt (fills_nothing c.args.end _ _) (returns-in-Ok-Failed-clause-permits g c) tt
    (still_queue c.args.end (Send c.args.end c.args.space c.args.now c.args.size) (Ok (Failed
    c.in-Ok-Failed.refused)) (λ log end. record {
      handed_same = λ measure there. refl;
      sent_same = λ measure
          there. refl;
    }) (λ log. tt) _ _ _ _
    (rw c.in-Ok-Failed.field-0-is at c.in-Ok-Failed.ensures.waits))
    (failed_items c.args.end c.args.space c.args.now c.args.size c.in-Ok-Failed.refused _ _ _ _
    (rw c.in-Ok-Failed.field-0-is at c.in-Ok-Failed.ensures.items))

pub returns-in-Err-send_from-clause-keeps : goal.returns-in-Err-send_from-clause-keeps
returns-in-Err-send_from-clause-keeps g c = step_keeps _ _ _ _ _ _ _ _ _ _ _ _
    (held_turn c.args.end _ _ _ _ _ _ _ _
    c.in-Ok.ensures.items tt tt (λ log listed. tt) c.in-Err-send_from.ensures.goes)
    tt (fills_nothing c.args.end _ _) (returns-in-Err-send_from-clause-permits g c) tt
    (still_queue c.args.end (Send c.args.end c.args.space c.args.now c.args.size) (Err c.in-Err-send_from.refused) (λ
    log end. record {
      handed_same = λ measure there. refl;
      sent_same = λ measure
          there. refl;
    }) (λ log. tt) _ _ _ _
    c.in-Err-send_from.ensures.waits)
    (idle_items c.args.end _ _ _
    _ _ _ tt tt tt (λ log. tt) c.in-Err-send_from.ensures.items)

pub returns-in-Err-clause-keeps : goal.returns-in-Err-clause-keeps
returns-in-Err-clause-keeps g c = step_keeps _ _ _ _ _ _ _ _ _ _ _ _
    (idle_step _ _ _ _ _ _ c.in-Err.ensures.items tt tt
    (λ log listed. tt))
    tt (fills_nothing c.args.end _ _) (returns-in-Err-clause-permits g c) tt
    (same_queue (Send c.args.end c.args.space c.args.now c.args.size) (Err (Event NoMemory)) (λ log end. record {
      handed_same = λ measure there. refl;
      sent_same = λ measure there. refl;
    }) (λ log. tt) _ _)
    (same_items _ _ _ _ tt tt tt (λ log. tt))

pub returns-in-Ok-Sent-clause-timer_set : goal.returns-in-Ok-Sent-clause-timer_set
returns-in-Ok-Sent-clause-timer_set g c = timers_still c.args.end _ _ _ _ c.in-Ok-Sent.ensures.timer

pub returns-in-Ok-Nothing-clause-timer_set : goal.returns-in-Ok-Nothing-clause-timer_set
returns-in-Ok-Nothing-clause-timer_set g c = timers_still c.args.end _ _ _ _ c.in-Ok-Nothing.ensures.timer

pub returns-in-Ok-Held-clause-timer_set : goal.returns-in-Ok-Held-clause-timer_set
returns-in-Ok-Held-clause-timer_set g c = timers_still c.args.end _ _ _ _ c.in-Ok-Held.ensures.timer

pub returns-in-Ok-Failed-clause-timer_set : goal.returns-in-Ok-Failed-clause-timer_set
returns-in-Ok-Failed-clause-timer_set g c = timers_still c.args.end _ _ _ _ c.in-Ok-Failed.ensures.timer

pub returns-in-Err-send_from-clause-timer_set : goal.returns-in-Err-send_from-clause-timer_set
returns-in-Err-send_from-clause-timer_set g c = timers_still c.args.end _ _ _ _ c.in-Err-send_from.ensures.timer

pub returns-in-Ok-Held-clause-held : goal.returns-in-Ok-Held-clause-held
returns-in-Ok-Held-clause-held g c = held_at _ _ _ _ _ c.args.end c.args.space c.args.now c.args.size c.in-Ok-Held.held
    _ _ (rw c.in-Ok-Held.field-0-is at c.in-Ok-Held.ensures.goes)
    (returns-in-Ok-Held-clause-permits g c) (rw c.in-Ok-Held.field-0-is at c.in-Ok-Held.ensures.held)
    (timers_still c.args.end _ _ _ _ c.in-Ok-Held.ensures.timer)

pub returns-in-Ok-Sent-clause-filled : goal.returns-in-Ok-Sent-clause-filled
returns-in-Ok-Sent-clause-filled g c = rw c.in-Ok-Sent.field-0-is at c.in-Ok-Sent.ensures.filled

pub returns-in-Ok-Nothing-clause-filled : goal.returns-in-Ok-Nothing-clause-filled
returns-in-Ok-Nothing-clause-filled g c = fills_nothing c.args.end _ _

pub returns-in-Ok-Held-clause-filled : goal.returns-in-Ok-Held-clause-filled
returns-in-Ok-Held-clause-filled g c = fills_nothing c.args.end _ _

pub returns-in-Ok-Failed-clause-filled : goal.returns-in-Ok-Failed-clause-filled
returns-in-Ok-Failed-clause-filled g c = fills_nothing c.args.end _ _

pub returns-in-Err-send_from-clause-filled : goal.returns-in-Err-send_from-clause-filled
returns-in-Err-send_from-clause-filled g c = fills_nothing c.args.end _ _

pub returns-in-Err-clause-filled : goal.returns-in-Err-clause-filled
returns-in-Err-clause-filled g c = fills_nothing c.args.end _ _
