use Rattle.std.proofs.Common.{Some, ap, sym, ◌∙◌}
use Rattle.recovery_stack.proofs.HeldLaws.{marks_held}
use Rattle.recovery_stack.proofs.handle.Handle.set_marks.Goals as goal

pub returns : goal.returns
returns c =
    marks_held c.deref_mut.result.now c.set_marks-is_set.new.self (sym c.in-Some.ensures)
    (c.in-Some-take.ensures.taken ∙ ap Some (sym c.deref_mut.ensures.value)) c.put.ensures
    c.set_marks-is_set.ensures
