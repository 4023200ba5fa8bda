use Rattle.std.proofs.Common.{rules}
use Rattle.recovery_replay.proofs.FaultLaws.{joined_begins}
use Rattle.recovery_replay.proofs.faults.is_joined.Goals as goal

pub returns : goal.returns
returns g c true =
    joined_begins g.G.Grammar.encodes c.args.front.now c.args.behind.now c.args.end.now _ c.in_ok-item.item
    (search rules) c.in_ok-item.ensures (rw c.is_some.ensures at true)
