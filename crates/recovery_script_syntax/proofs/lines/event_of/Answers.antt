use Rattle.std.proofs.Common.{refl, subst, sym, rules}
use Rattle.recovery_events.specs.declared.event.Event.TheVariants.{IssueIds}
use Rattle.recovery_script_syntax.specs.declared.forms.Line.{Line}
use Rattle.recovery_script_syntax.specs.Lines.{DenotesEvent}
use Rattle.recovery_script_syntax.proofs.lines.event_of.Goals as goal

pub returns-in_ok-ids-in-Ids : goal.returns-in_ok-ids-in-Ids
returns-in_ok-ids-in-Ids c =
    subst (λ (line : Line). DenotesEvent line (IssueIds c.in-Ids.now c.in_ok-ids-in-Ids.ids)) (sym c.in-Ids.is)
    (c.in_ok-ids-in-Ids.ids, refl, c.in_ok-ids-in-Ids.ensures.made, search rules)
