use Rattle.std.proofs.Common.{Some, ap, sym, ◌∙◌}
use Rattle.recovery_stack.proofs.HeldLaws.{asks_held}
use Rattle.recovery_stack.proofs.handle.Handle.call_sender.Goals as goal

pub returns : goal.returns
returns c =
    asks_held c.deref_mut.result.now c.call_sender-reply.new.self
    (c.take-stack.ensures.value ∙ ap Some (sym c.deref_mut.ensures.value)) c.put.ensures c.call_sender-reply.ensures
