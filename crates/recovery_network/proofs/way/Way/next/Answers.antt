use Rattle.std.proofs.Common.{rules}
use Rattle.recovery_network.proofs.BottleneckLaws.{headed}
use Rattle.recovery_network.proofs.way.Way.next.Goals as goal

pub returns : goal.returns
returns g c =
    let found = headed c.args.self.now.carried.items c.in_ok-first.first.now (search rules) (search rules) in
    (c.in_ok-first.first.now, found.0, found.1, search rules)
