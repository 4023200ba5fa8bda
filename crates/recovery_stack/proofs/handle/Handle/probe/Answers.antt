use Rattle.std.proofs.Common.{Some, ap, sym, ◌∙◌}
use Rattle.recovery_stack.proofs.HeldLaws.{probes_held}
use Rattle.recovery_stack.proofs.handle.Handle.probe.Goals as goal

pub returns : goal.returns
returns c =
    probes_held c.deref_mut.result.now c.probe-reply.new.self
    (c.in-Some.ensures.taken ∙ ap Some (sym c.deref_mut.ensures.value)) c.put.ensures c.probe-reply.ensures
