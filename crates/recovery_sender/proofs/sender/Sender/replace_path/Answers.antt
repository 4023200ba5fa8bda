use Rattle.std.proofs.Common.{true, false}
use Rattle.recovery_events.specs.declared.event.Answer.TheVariants.{Done}
use Rattle.recovery_events.specs.declared.event.Event.TheVariants.{NewPath}
use Rattle.recovery_sender.proofs.PathLaws.{moves_after}
use Rattle.recovery_sender.proofs.sender.Sender.replace_path.Goals as goal

pub returns-then-fresh-clause-moves : goal.returns-then-fresh-clause-moves
returns-then-fresh-clause-moves g c = rw c.if-fresh.true (moves_after c.args.self.now c.go_back.new.self
    c.start_path.new.self (NewPath c.args.now c.args.remote true) Done c.go_back.ensures c.start_path.ensures)

pub returns-clause-moves : goal.returns-clause-moves
returns-clause-moves g c = rw c.if-fresh.false (moves_after c.args.self.now c.go_back-2.new.self
    c.continue_path.new.self (NewPath c.args.now c.args.remote false) Done c.go_back-2.ensures
    c.continue_path.ensures)
