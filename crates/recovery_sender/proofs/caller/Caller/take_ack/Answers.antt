use Rattle.std.proofs.Common.{Err, subst}
use Rattle.recovery_sender.specs.Acking.{AckResult}
use Rattle.recovery_sender.proofs.caller.Caller.take_ack.Goals as goal

pub returns : goal.returns
returns g c = subst (λ ranges. AckResult c.args.frame.space c.args.frame.now ranges c.args.frame.ack
    c.args.self.now.sender
    c.on_ack.new.self (Err c.in-Err.refused)) c.deref.ensures.value c.in-Err.ensures
