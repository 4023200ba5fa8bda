use Rattle.recovery_packet_numbers.proofs.DrawRangeLaws.{can_draw}
use Rattle.recovery_packet_numbers.proofs.filter.PacketNumberFilter.allocate.Goals as goal

pub pass-requires : goal.pass-requires
pass-requires g c =
    let sound = c.peek-number.ensures.sound in
    let can = can_draw _ sound _ _ c.peek-number.ensures.number
    c.if-number-next.true c.if-number-ge-NUMBER_BOUND.false in
    record { first = sound.first; last = can.0; below = can.1 }
