use Rattle.std.proofs.Common.{◌≡◌, ◌∷◌, ◌++◌, length, take}
use Rattle.recovery_engine.proofs.sending.list_packet.Given as goal

abbrev pub invariant-loop-item : goal.invariant-loop-item
invariant-loop-item l =
    l.packets.items ≡ l.fn.packets.items ++ l.number ∷ length l.items ∷ take l.item-index l.items
