use Rattle.std.proofs.Common.{[], ap, ◌∙◌, arith}
use Rattle.std.specs.Option.{option_and_then, option_map_or}
use Rattle.recovery_spaces.specs.Spaces.{packets_of}
use Rattle.recovery_sender.specs.Losses.{largest_in}
use Rattle.recovery_sender.specs.Senders.{state_in}
use Rattle.recovery_sender.specs.Spaces.{packets_in}
use Rattle.recovery_sender.proofs.AckRoomLaws.{numbers_below}
use Rattle.recovery_sender.proofs.PromiseLaws.{acks_tracked}
use Rattle.recovery_sender.proofs.sender.Sender.newly_acked.Goals as goal

pub returns : goal.returns
returns g c =
    let checked = c.in_default.ensures.checked in
    let space = c.args.space in
    let state = state_in c.args.self.now in
    let same = ap packets_of c.here.view_is ∙ ap (λ there. option_map_or packets_of there []) c.in-Some.ensures in
    let newly = rw same at c.in-Ok.ensures.newly in
    let most = ap (λ here. here.largest_acked_packet) c.here.view_is
    ∙ ap (λ there. option_and_then (λ here. here.largest_acked_packet) there) c.in-Some.ensures in
    let enough = rw (c.loss_end-end.ensures, c.largest_of.ensures, most, same) at c.count_below-others.ensures.enough in
    record {
      whole = checked.0;
      sent = checked.1;
      allowed = checked.2;
      newly = newly;
      tracked = acks_tracked c.args.space c.args.self.now checked.0.0 c.args.ranges.now _ c.in-Ok.newly.elicits newly;
      room = record {
        none = c.in-Ok-room_for.ensures.none;
        below = numbers_below (packets_in state space) c.args.ranges.now c.in-Ok.newly.numbers.items
            c.in-Ok.newly.elicits (largest_in state space) checked.0.1 newly;
        room = omega (arith, c.in-Ok-room_for.ensures.room, c.len.ensures, c.in-Ok.newly.numbers.ok.0, enough);
      };
    }
