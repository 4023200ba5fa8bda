use Rattle.std.proofs.Common.{ℕ, subst, inl}
use Rattle.recovery_events.specs.declared.event.Event.TheVariants.{IssueIds}
use Rattle.recovery_stack.specs.Answers.{HandleApplies}
use Rattle.recovery_stack.proofs.handle.Handle.issue_ids.Goals as goal

pub returns-in-Ok-clause-short : goal.returns-in-Ok-clause-short
returns-in-Ok-clause-short c short =
    let Answered : ℕ → Type 0 = λ now.
    HandleApplies c.args.self.now.slot.held (IssueIds now c.in-Ok.ids) c.apply.result c.apply.new.self.slot.held in
    inl (record {
      ids = c.in-Ok.ids;
      issued = c.in-Ok.ensures.ids;
      answers = subst Answered c.from_nanos.ensures c.apply.ensures;
    })
