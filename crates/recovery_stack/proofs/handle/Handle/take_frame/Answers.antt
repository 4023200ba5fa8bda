use Rattle.std.proofs.Common.{Some, ap, sym, ◌∙◌}
use Rattle.recovery_stack.proofs.HeldLaws.{asks_held}
use Rattle.recovery_stack.proofs.handle.Handle.take_frame.Goals as goal

pub returns : goal.returns
returns c =
    rw c.by_field.ensures (asks_held c.deref_mut.result.now c.take_ack-reply.new.self
    (c.take-stack.ensures.value ∙ ap Some (sym c.deref_mut.ensures.value)) c.put.ensures c.take_ack-reply.ensures)
