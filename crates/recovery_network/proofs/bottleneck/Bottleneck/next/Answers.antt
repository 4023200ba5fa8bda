use Rattle.std.proofs.Common.{rules}
use Rattle.recovery_network.proofs.BottleneckLaws.{leads}
use Rattle.recovery_network.proofs.bottleneck.Bottleneck.next.Goals as goal

pub returns-in-Some : goal.returns-in-Some
returns-in-Some c let_in left after =
    leads let_in left c.args.self.now c.in-Some.first.now c.departure.result after (search rules) (search rules)
    (search rules)
