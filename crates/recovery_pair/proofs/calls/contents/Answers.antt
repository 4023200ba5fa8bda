use Rattle.std.proofs.Common.{false, true≢false, refl, sym, ◌∙◌}
use Rattle.recovery_pair.proofs.FilledLaws.{probe_fills}
use Rattle.recovery_pair.proofs.AlongLaws.{passes_so}
use Rattle.recovery_pair.proofs.QuietLaws.{ending_along, probe_quietly}
use Rattle.recovery_pair.specs.Pasts.{no_endings}
use Rattle.recovery_events.specs.declared.event.Event.TheVariants.{TakePending}
use Rattle.recovery_pair.proofs.TimedLaws.{event_timer, probe_timer}
use Rattle.recovery_pair.proofs.ItemLaws.{failed_carries, pending_carries, probe_matches}
use Rattle.recovery_pair.proofs.calls.contents.Goals as goal

pub returns-then-probe-clause-goes : goal.returns-then-probe-clause-goes
returns-then-probe-clause-goes g c = probe_quietly c.args.space false tt c.args.sender.now c.probe.new.self
    c.probe.result
    c.probe.ensures

pub returns-in-Ok-Queue-clause-goes : goal.returns-in-Ok-Queue-clause-goes
returns-in-Ok-Queue-clause-goes g c = passes_so (ending_along no_endings) _ _ (TakePending c.args.space) (λ reply. tt)
    refl c.on_event.result c.on_event.ensures

pub returns-in-Err-clause-goes : goal.returns-in-Err-clause-goes
returns-in-Err-clause-goes g c = passes_so (ending_along no_endings) _ _ (TakePending c.args.space) (λ reply. tt) refl
    c.on_event.result c.on_event.ensures

pub returns-then-probe-clause-timer : goal.returns-then-probe-clause-timer
returns-then-probe-clause-timer g c = probe_timer c.args.sender.now c.probe.new.self c.args.space false tt
    c.probe.result c.probe.ensures

pub returns-in-Ok-Queue-clause-timer : goal.returns-in-Ok-Queue-clause-timer
returns-in-Ok-Queue-clause-timer g c = event_timer _ _ (TakePending c.args.space) tt
    refl c.on_event.result c.on_event.ensures

pub returns-in-Err-clause-timer : goal.returns-in-Err-clause-timer
returns-in-Err-clause-timer g c = event_timer _ _ (TakePending c.args.space) tt
    refl c.on_event.result c.on_event.ensures

pub returns-in-Ok-Queue-clause-items : goal.returns-in-Ok-Queue-clause-items
returns-in-Ok-Queue-clause-items g c = rw c.if-probe.false (pending_carries c.args.space c.in-Ok-Queue.queue
    c.args.sender.now c.on_event.new.self (rw c.in-Ok-Queue.field-0-is at c.in-Ok-Queue.ensures))

pub returns-in-Err-clause-items : goal.returns-in-Err-clause-items
returns-in-Err-clause-items g c = failed_carries (TakePending c.args.space) _ _
    (λ refusal. tt) refl c.in-Err.refused c.in-Err.ensures

pub returns-then-probe-clause-items : goal.returns-then-probe-clause-items
returns-then-probe-clause-items g c = rw c.if-probe.true (probe_matches c.args.space false tt c.probe.result
    c.args.sender.now c.probe.new.self c.probe.ensures)

pub returns-then-probe-clause-filled : goal.returns-then-probe-clause-filled
returns-then-probe-clause-filled g c = probe_fills c.args.sender.now c.probe.new.self refl c.args.probe c.args.space
    tt c.probe.result c.probe.ensures

pub returns-in-Ok-Queue-clause-filled : goal.returns-in-Ok-Queue-clause-filled
returns-in-Ok-Queue-clause-filled g c = λ on none own. absurd (true≢false (sym on ∙ c.if-probe.false))
