use Rattle.std.proofs.Common.{rules}
use Rattle.recovery_network.proofs.BottleneckLaws.{discards_first}
use Rattle.recovery_network.proofs.bottleneck.Bottleneck.discard.Goals as goal

pub returns-clause-discards : goal.returns-clause-discards
returns-clause-discards c let_in left after =
    discards_first let_in left c.pop_front.new.self.items c.args.self.now _ c.in_ok-first.first after (search rules)
    (search rules)
