use Rattle.recovery_sender.proofs.AckedLaws.{acked_answered, acked_on, largest_on, still_tracked}
use Rattle.recovery_sender.proofs.LeadLaws.{occurred}
use Rattle.recovery_sender.proofs.sender.Sender.tell_acked.Goals as goal

pub tell_packet_acked-requires : goal.tell_packet_acked-requires
tell_packet_acked-requires g c =
    let i = c.loop-number.invariant in
    acked_answered c.args.space c.args.now _ c.args.app_limited c.loop-number.self.recovery.recovery
    (still_tracked c.args.space c.args.now c.args.app_limited c.args.numbers.now c.args.self.now
    c.loop-number.self c.loop-number.number-index c.loop-number-test.true c.requires.tracked c.requires.rising
    i.packets)

pub loop-number-preserved : goal.loop-number-preserved
loop-number-preserved g c =
    let i = c.loop-number.invariant in
    let one = occurred _ _ _ _ c.tell_packet_acked.ensures in
    let on = acked_on c.args.space c.args.now c.args.app_limited c.args.numbers.now c.args.self.now c.loop-number.self
    c.loop-number.number-index c.loop-number-test.true c.requires.tracked c.requires.rising i.packets
    c.tell_packet_acked.new.self i.goes one in
    record {
      goes = on.0;
      packets = on.1;
      largest = largest_on c.args.space c.args.now c.args.app_limited c.args.numbers.now c.args.self.now
          c.loop-number.self c.loop-number.number-index c.loop-number-test.true c.requires.tracked c.requires.rising
          i.packets c.tell_packet_acked.new.self one i.largest;
    }
