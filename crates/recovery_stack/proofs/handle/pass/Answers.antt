use Rattle.std.proofs.Common.{Some, inl, ap, sym, ◌∙◌}
use Rattle.recovery_stack.proofs.HeldLaws.{passed_accepted}
use Rattle.recovery_stack.proofs.handle.pass.Goals as goal

pub returns : goal.returns
returns c = record {
  is = c.pass-reply.new.self;
  holds = c.put.ensures;
  lets = inl (passed_accepted _ _ c.requires.passes, rw c.deref_mut.ensures.value at c.pass-reply.ensures);
}
