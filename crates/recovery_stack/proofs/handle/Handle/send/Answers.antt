use Rattle.std.proofs.Common.{Some, inl, ap, sym, ◌∙◌}
use Rattle.recovery_stack.proofs.HeldLaws.{answers_held, send_accepted}
use Rattle.recovery_stack.proofs.handle.Handle.send.Goals as goal

pub returns : goal.returns
returns c =
    rw c.by_field.ensures (answers_held c.deref_mut.result.now c.send-reply.new.self
    (c.take-stack.ensures.value ∙ ap Some (sym c.deref_mut.ensures.value)) c.put.ensures
    (inl (send_accepted c.deref_mut.result.now.kept c.args.packet, c.send-reply.ensures)))
