use Rattle.std.proofs.Common.{arith}
use Rattle.recovery_sender.specs.Senders.{state_in}
use Rattle.recovery_sender.specs.Spaces.{packets_in}
use Rattle.recovery_losses.proofs.EarliestLaws.{none_sent, sent_end, sent_next}
use Rattle.recovery_sender.proofs.sender.Sender.earliest_sent.Goals as goal

pub loop-packet-init : goal.loop-packet-init
loop-packet-init g c = record {
  sent = none_sent c.args.look.now (packets_in (state_in c.args.self.now) c.args.look.now.space);
  within = omega arith;
}

pub loop-packet-preserved : goal.loop-packet-preserved
loop-packet-preserved g c =
    let i = c.loop-packet.invariant in
    let is = c.in-Some.ensures.next in
    record {
      sent = rw c.earlier-earliest.ensures (sent_next c.args.look.now
          (packets_in (state_in c.args.self.now) c.args.look.now.space) c.loop-packet.from _ _ i.sent is);
      within = omega (arith, is.below.1);
    }

pub returns : goal.returns
returns g c =
    let i = c.loop-packet.invariant in
    sent_end c.args.look.now (packets_in (state_in c.args.self.now) c.args.look.now.space) c.loop-packet.from _ i.sent
    i.within c.in_default.ensures.next
