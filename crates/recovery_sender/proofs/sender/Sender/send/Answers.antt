use Rattle.std.proofs.Common.{None, Some, nat_lt, sym}
use Rattle.std.specs.Prelude.{if◌then◌else◌}
use Rattle.recovery_losses.specs.declared.variables.Variables.{Variables}
use Rattle.recovery_losses.specs.Variables.{based, probed}
use Rattle.recovery_history.specs.History.{queue_model}
use Rattle.recovery_sender.specs.Senders.{state_in}
use Rattle.recovery_sender.specs.Calls.{sent_at, sent_in}
use Rattle.recovery_sender.proofs.StepLaws.{does_as, does_behind_with, told_changes}
use Rattle.recovery_sender.proofs.OnlyPtoLaws.{only_after}
use Rattle.recovery_sender.proofs.sender.Sender.send.Goals as goal

pub returns-in-Ok : goal.returns-in-Ok
returns-in-Ok g c =
    let answer = c.in-Ok.answer in
    does_behind_with (λ (variables : Variables). probed (sent_in (if c.args.ack_eliciting then Some c.args.space
    else None) answer) (based (sent_at (if nat_lt 0 c.args.size then Some c.args.now else None) answer) variables)) _
    c.args.self.now _ _ c.in-Ok.ensures (does_as _ _ _ _ _ (sym c.count_sent.ensures.state)
    (rw (c.counted_at-time.ensures, c.eliciting_in.ensures) at c.count_sent.ensures.variables) c.move_timer.ensures)

pub move_timer-requires : goal.move_timer-requires
move_timer-requires g c = only_after (queue_model g.Q.RetransmitQueue.contents g.Q.RetransmitQueue.words
    g.Q.RetransmitQueue.blank) c.args.self.now.variables _ (state_in c.args.self.now) _ _ c.args.space c.args.now
    c.args.size c.args.ack_eliciting c.args.largest_acked c.args.queue c.args.stream_frames c.in-Ok.answer _ _
    c.count_sent.ensures.state (rw c.in-Ok.ensures.variables at c.count_sent.ensures.variables)
    (told_changes _ _ _ _ c.in-Ok.ensures) c.known_pto_in-known.result c.known_pto_in-known.ensures.known
    c.known_pto_in-known.ensures.there
