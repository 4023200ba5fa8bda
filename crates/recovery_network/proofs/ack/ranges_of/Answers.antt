use Rattle.std.proofs.Common.{rules, refl}
use Rattle.recovery_network.proofs.AckFrameLaws.{no_more, none_listed, one_more}
use Rattle.recovery_network.proofs.ack.ranges_of.Goals as goal

pub loop-at-init : goal.loop-at-init
loop-at-init c = rw c.new-ranges.ensures.items (none_listed c.as_slice-all.result.now _ refl)

pub loop-at-preserved-in-Continue-1 : goal.loop-at-preserved-in-Continue-1
loop-at-preserved-in-Continue-1 c = one_more c.as_slice-all.result.now c.loop-at.at c.loop-at.ranges.items
    c.loop-at-test.true c.loop-at.invariant c.in-Some.last c.push.new.self.items (search rules) (search rules)

pub loop-at-preserved : goal.loop-at-preserved
loop-at-preserved c = no_more c.as_slice-all.result.now c.loop-at.at c.loop-at.ranges.items c.loop-at-test.true
    c.loop-at.invariant (search rules)
