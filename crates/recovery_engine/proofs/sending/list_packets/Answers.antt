use Rattle.std.proofs.Common.{arith}
use Rattle.recovery_engine.proofs.PacketLists.{listed_more}
use Rattle.recovery_engine.proofs.sending.list_packets.Goals as goal

pub loop-number-preserved : goal.loop-number-preserved
loop-number-preserved c = grind (
  arith,
  listed_more c.args.tracked.now.packets c.args.numbers.now c.loop-number.number-index c.loop-number-test.true,
  c.list_packet.ensures,
  c.items_of.ensures,
  c.loop-number.invariant,
  c.if-not-list_packet.ensures,
)
