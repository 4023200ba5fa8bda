use Rattle.std.proofs.Common.{Some, ap, sym, ◌∙◌}
use Rattle.recovery_stack.proofs.handle.Handle.tracked.Goals as goal

pub returns : goal.returns
returns c =
    let stands = ap Some (sym c.deref.ensures) in
    rw (c.in-Some.ensures.taken ∙ stands) (c.put.ensures ∙ stands, c.tracked-view.ensures)
