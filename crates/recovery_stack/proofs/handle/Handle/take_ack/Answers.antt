use Rattle.std.proofs.Common.{Option, subst}
use Rattle.recovery_engine.specs.declared.sending.TakenAck.{TakenAck}
use Rattle.recovery_stack.specs.SenderCalls.{AsksAck}
use Rattle.recovery_stack.proofs.handle.Handle.take_ack.Goals as goal

pub returns : goal.returns
returns c =
    subst (λ (f : Option TakenAck). AsksAck f c.args.ranges.now c.args.self.now.slot.held c.take_frame.result
    c.take_frame.new.self.slot.held)
    c.in-Some.ensures c.take_frame.ensures
