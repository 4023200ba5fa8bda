use Rattle.std.proofs.Common.{rules, arith}
use Rattle.recovery_network.proofs.BottleneckLaws.{takes_first, takes_none}
use Rattle.recovery_network.proofs.bottleneck.Bottleneck.take.Goals as goal

pub returns-then-leaves-now-clause-takes : goal.returns-then-leaves-now-clause-takes
returns-then-leaves-now-clause-takes c let_in left after =
    takes_none let_in left c.args.self.now c.in_ok-leaves.leaves c.args.now after
    (c.in_ok-leaves.ensures let_in left after) c.if-leaves-now.true

pub returns-clause-takes : goal.returns-clause-takes
returns-clause-takes c let_in left after =
    takes_first let_in left c.pop_front.new.self.items c.args.self.now _ c.in_ok-first.first c.in_ok-leaves.leaves
    c.args.now after (search rules) (c.in_ok-leaves.ensures let_in left after)
    (omega (arith, c.if-leaves-now.false)) (search rules)
