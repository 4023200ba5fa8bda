use Rattle.std.proofs.Common.{arith}
use Rattle.recovery_ids.proofs.IdWindowLaws.{drops_below}
use Rattle.recovery_ids.proofs.window.Window.drop_below.Goals as goal

pub returns-clause-entries : goal.returns-clause-entries
returns-clause-entries c =
    let at = c.loop-number in
    drops_below c.args.self.now record { entries = at.self.entries; start = c.args.low } c.requires.ahead
    (λ m above below. at.invariant.fresh m above (omega arith))
    at.invariant.kept
