use Rattle.std.proofs.Common.{◌≡◌, take}
use Rattle.recovery_engine.specs.Kept.{packets_listed}
use Rattle.recovery_engine.proofs.sending.list_packets.Given as goal

abbrev pub invariant-loop-number : goal.invariant-loop-number
invariant-loop-number l = l.packets.items ≡ packets_listed l.tracked.packets (take l.number-index l.numbers)
