use Rattle.recovery_pair.proofs.ExpireLaws.{timeout_asks, timeout_expires}
use Rattle.recovery_pair.proofs.QuietLaws.{timeout_ending}
use Rattle.recovery_pair.proofs.TimedLaws.{timeout_timer}
use Rattle.recovery_pair.proofs.ItemLaws.{timeout_carries}
use Rattle.recovery_pair.proofs.FallLaws.{timeout_finds}
use Rattle.recovery_pair.proofs.LeastLaws.{timeout_least}
use Rattle.recovery_pair.proofs.calls.expire.Goals as goal

pub returns-clause-goes : goal.returns-clause-goes
returns-clause-goes g c = timeout_ending _ _ _ _
    c.on_timeout.ensures.comes

pub returns-clause-timer : goal.returns-clause-timer
returns-clause-timer g c = timeout_timer _ _ _ _
    c.on_timeout.ensures.comes

pub returns-clause-items : goal.returns-clause-items
returns-clause-items g c = timeout_carries _ _ _ _
    c.on_timeout.ensures.comes

pub returns-clause-least : goal.returns-clause-least
returns-clause-least g c = timeout_least c.args.sender.now c.on_timeout.new.self g.met.F.Controller.Controller.laws
    g.met.F.ControllerFactory.starts_by_now c.args.now c.on_timeout.result c.on_timeout.ensures.comes

pub returns-clause-finds : goal.returns-clause-finds
returns-clause-finds g c = timeout_finds _ _ _ _
    c.on_timeout.ensures.comes

pub returns-clause-acts : goal.returns-clause-acts
returns-clause-acts g c = timeout_expires c.args.now c.args.sender.now c.on_timeout.new.self c.on_timeout.result
    c.on_timeout.ensures.comes

pub returns-clause-asks : goal.returns-clause-asks
returns-clause-asks g c = timeout_asks c.args.now c.args.sender.now c.on_timeout.new.self c.on_timeout.result
    c.on_timeout.ensures.comes
