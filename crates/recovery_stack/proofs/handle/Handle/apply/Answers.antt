use Rattle.std.proofs.Common.{Some, ap, sym, ◌∙◌}
use Rattle.recovery_stack.proofs.HeldLaws.{answers_held}
use Rattle.recovery_stack.proofs.handle.Handle.apply.Goals as goal

pub returns : goal.returns
returns c =
    answers_held c.deref_mut.result.now c.apply-reply.new.self
    (c.take-stack.ensures.value ∙ ap Some (sym c.deref_mut.ensures.value)) c.put.ensures c.apply-reply.ensures

pub returns-then-is_passed : goal.returns-then-is_passed
returns-then-is_passed c = rw (c.take-stack.ensures.value, c.by_field.ensures) c.pass-passed.ensures
