use Rattle.std.proofs.Common.{false, Err, Ok, refl, ◌∙◌}
use Rattle.recovery_pair.proofs.TurnLaws.{came_turn, heard_turn}
use Rattle.recovery_pair.proofs.ItemMoves.{calls_move, hears_move}
use Rattle.recovery_pair.proofs.ItemLaws.{carries_then}
use Rattle.recovery_pair.proofs.endpoint.Endpoint.hear.Goals as goal

pub returns-in-Ok-Some-clause-goes : goal.returns-in-Ok-Some-clause-goes
returns-in-Ok-Some-clause-goes g c = heard_turn c.args.now c.args.packet.now c.in-Ok.items _ _ _ _ _ _
    (c.in-Ok.ensures ∙ c.deref.ensures.value) c.in-Ok-datagram.ensures.goes
    (rw c.in-Ok-Some.field-0-is at c.in-Ok-Some.ensures.goes) c.hear_ack-acked.ensures.goes
    c.hear_ack-acked.ensures.honest
    c.hear_ack-acked.ensures.within c.hear_ack-acked.ensures.framed c.hear_ack-acked.ensures.sampled
    c.hear_ack-acked.ensures.finds
    c.hear_ack-acked.ensures.newly c.plan_ack.ensures.goes

pub returns-in-Ok-None-clause-goes : goal.returns-in-Ok-None-clause-goes
returns-in-Ok-None-clause-goes g c = record {
  goes = came_turn c.args.now c.args.packet.now.size c.args.packet.now.space c.args.packet.now.number (Ok false) _ _ _
      c.in-Ok-datagram.ensures.goes
      (rw c.in-Ok-None.field-0-is at c.in-Ok-None.ensures.goes);
  takes = tt;
}

pub returns-in-Err-hear-clause-goes : goal.returns-in-Err-hear-clause-goes
returns-in-Err-hear-clause-goes g c = record {
  goes = came_turn c.args.now c.args.packet.now.size c.args.packet.now.space c.args.packet.now.number (Err
      c.in-Err-hear.refused) _ _ _ c.in-Ok-datagram.ensures.goes
      c.in-Err-hear.ensures.goes;
  takes = tt;
}

pub returns-in-Ok-Some-clause-timer : goal.returns-in-Ok-Some-clause-timer
returns-in-Ok-Some-clause-timer g c = λ known has. c.plan_ack.ensures.timer _ (c.hear_ack-acked.ensures.timer known
    (c.in-Ok-Some.ensures.timer known (c.in-Ok-datagram.ensures.timer known has)))

pub returns-in-Ok-None-clause-timer : goal.returns-in-Ok-None-clause-timer
returns-in-Ok-None-clause-timer g c = λ known has. c.in-Ok-None.ensures.timer known
    (c.in-Ok-datagram.ensures.timer known has)

pub returns-in-Err-hear-clause-timer : goal.returns-in-Err-hear-clause-timer
returns-in-Err-hear-clause-timer g c = λ known has. c.in-Err-hear.ensures.timer known
    (c.in-Ok-datagram.ensures.timer known has)

pub returns-in-Ok-Some-clause-items : goal.returns-in-Ok-Some-clause-items
returns-in-Ok-Some-clause-items g c = hears_move c.args.packet.now.space c.in-Ok.items _ _ _ _ _ _ _ _
    c.in-Ok-datagram.ensures.items c.in-Ok-Some.ensures.items c.hear_ack-acked.ensures.items c.plan_ack.ensures.items
    c.plan_ack.ensures.waits

pub returns-in-Ok-None-clause-items : goal.returns-in-Ok-None-clause-items
returns-in-Ok-None-clause-items g c = calls_move _ _ _ _ _ (carries_then _ _ _ _ c.in-Ok-datagram.ensures.items
    c.in-Ok-None.ensures.items) refl

pub returns-in-Err-hear-clause-items : goal.returns-in-Err-hear-clause-items
returns-in-Err-hear-clause-items g c = calls_move _ _ _ _ _ (carries_then _ _ _ _ c.in-Ok-datagram.ensures.items
    c.in-Err-hear.ensures.items) refl

pub returns-in-Ok-Some-clause-least : goal.returns-in-Ok-Some-clause-least
returns-in-Ok-Some-clause-least g c = λ persistent. c.plan_ack.ensures.least
    (c.hear_ack-acked.ensures.least persistent)
