use Rattle.std.proofs.Common.{sym, ◌∙◌}
use Rattle.recovery_sender.specs.Senders.{state_in}
use Rattle.recovery_sender.proofs.DueLaws.{due_there}
use Rattle.recovery_sender.proofs.sender.Sender.due_now.Goals as goal

pub returns-in-Some-clause-there : goal.returns-in-Some-clause-there
returns-in-Some-clause-there g c =
    due_there (state_in c.args.self.now) c.args.self.now.variables (c.in-Some.time, c.in-Some.due)
    (sym c.due.ensures ∙ c.in-Some.is)
