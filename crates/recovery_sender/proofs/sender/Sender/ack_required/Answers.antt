use Rattle.std.proofs.Common.{sym, ap, subst, ◌∙◌}
use Rattle.std.specs.Prelude.{Decides, option_copied}
use Rattle.recovery_acks.specs.Acks.{CanSend}
use Rattle.recovery_sender.specs.Senders.{state_in}
use Rattle.recovery_sender.proofs.CallLaws.{ack_decided}
use Rattle.recovery_sender.proofs.sender.Sender.ack_required.Goals as goal

pub returns-in-Some : goal.returns-in-Some
returns-in-Some g c = ack_decided (state_in c.args.self.now) c.args.space c.in-Some.here.now c.can_send.result
    (sym (ap option_copied c.in-Some.is) ∙ c.space.ensures)
    (subst (λ here. Decides c.can_send.result (CanSend here.pending_acks)) c.here.view_is c.can_send.ensures)
