use Rattle.std.proofs.Common.{◌-◌, None, sym, subst, ◌∙◌, arith}
use Rattle.recovery_sender.specs.Acks.{AreNewlyAcked}
use Rattle.recovery_sender.proofs.AckLaws.{newly_on}
use Rattle.recovery_losses.proofs.FrameLaws.{are_fine, ranges_are, small_all}
use Rattle.recovery_sender.proofs.sender.acks.find_newly.Goals as goal

pub take_range-requires-clause-whole : goal.take_range-requires-clause-whole
take_range-requires-clause-whole g c =
    let i = c.loop-at.invariant in
    let some = c.loop-at-test.true in
    (are_fine None c.args.ranges.now (sym (ranges_are c.args.ranges.now (omega (arith, some, i.within)))
    ∙ c.requires.whole)).whole (c.loop-at.at - 1) (omega (arith, some, i.within))

pub take_range-requires-clause-small : goal.take_range-requires-clause-small
take_range-requires-clause-small g c =
    let i = c.loop-at.invariant in
    let some = c.loop-at-test.true in
    small_all c.args.ranges.now _ (are_fine None c.args.ranges.now
    (sym (ranges_are c.args.ranges.now (omega (arith, some, i.within))) ∙ c.requires.whole)) c.requires.small
    (c.loop-at.at - 1) (omega (arith, some, i.within))

pub loop-at-preserved : goal.loop-at-preserved
loop-at-preserved g c =
    let i = c.loop-at.invariant in
    let some = c.loop-at-test.true in
    let one = c.in_default.ensures.taken in
    record {
      newly = newly_on c.args.packets.now.packets c.args.ranges.now
          (are_fine None c.args.ranges.now (sym (ranges_are c.args.ranges.now (omega (arith, some, i.within)))
          ∙ c.requires.whole)) (c.loop-at.at - 1) (omega (arith, some, i.within)) c.loop-at.newly.numbers.items _
          c.loop-at.newly.elicits _ (subst (λ at. AreNewlyAcked c.args.packets.now.packets c.args.ranges.now at
          c.loop-at.newly.numbers.items c.loop-at.newly.elicits) (omega (arith, some)) i.newly) one;
      within = omega (arith, i.within);
    }

pub returns : goal.returns
returns g c = record {
  memory = tt;
  newly = subst (λ at. AreNewlyAcked c.args.packets.now.packets c.args.ranges.now at c.loop-at.newly.numbers.items
      c.loop-at.newly.elicits) (omega (arith, c.loop-at-test.false)) c.loop-at.invariant.newly;
}
