use Rattle.std.proofs.Common.{◌+◌, ap, arith}
use Rattle.recovery_sender.proofs.AckLaws.{first_of_range, none_of_range, takes_all, takes_none, takes_one}
use Rattle.recovery_sender.proofs.sender.acks.take_range.Goals as goal

pub loop-number-init : goal.loop-number-init
loop-number-init g c = record {
  takes = takes_none _ c.args.first c.args.last c.args.newly.now.numbers.items _ c.requires.rising c.requires.elicits;
  above = omega arith;
  within = omega (arith, c.requires.whole);
}

pub loop-number-preserved : goal.loop-number-preserved
loop-number-preserved g c =
    let i = c.loop-number.invariant in
    let found = c.in-Some.ensures in
    let is = first_of_range c.loop-number.from c.args.last _ c.in-Some.number c.in-Some.packet.now _
    (ap (λ packet. packet.ack_eliciting) c.packet.view_is) found.first.1 found.lowest (omega (arith, found.first.0)) in
    record {
      takes = rw (c.push_reserved.ensures.items, c.reserve.ensures.items) (takes_one c.args.packets.now.packets
          c.args.first c.args.last c.args.newly.now.numbers.items _ _ _ _ i.above i.takes is);
      above = omega (arith, i.above, is.from_on);
      within = omega (arith, is.up_to);
    }

pub loop-number-smaller : goal.loop-number-smaller
loop-number-smaller g c =
    let found = c.in-Some.ensures in
    let is = first_of_range c.loop-number.from c.args.last _ c.in-Some.number c.in-Some.packet.now _
    (ap (λ packet. packet.ack_eliciting) c.packet.view_is) found.first.1 found.lowest (omega (arith, found.first.0)) in
    omega (arith, is.from_on, is.up_to)

pub returns : goal.returns
returns g c =
    let i = c.loop-number.invariant in
    record {
      memory = tt;
      taken = takes_all _ c.args.first c.args.last c.args.newly.now.numbers.items _ _ _ i.within i.takes
          (none_of_range c.loop-number.from c.args.last _ (c.args.last + 1) c.in_default.ensures.none (omega arith));
    }
