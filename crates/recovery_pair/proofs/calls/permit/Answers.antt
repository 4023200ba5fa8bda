use Rattle.std.proofs.Common.{sym, ◌∙◌}
use Rattle.recovery_pair.proofs.ItemLaws.{then_carries}
use Rattle.recovery_pair.proofs.PermitLaws.{held_alone, held_quietly}
use Rattle.recovery_pair.proofs.QuietLaws.{quietly_leaves}
use Rattle.recovery_pair.proofs.calls.permit.Goals as goal

pub count_ack-requires : goal.count_ack-requires
count_ack-requires g c = record {
  permits = held_alone c.transmit.new.sender c.args.space c.args.size c.in-Ok.said
      (sym c.requires_ack.ensures ∙ c.if-requires_ack.true) c.in-Ok.ensures.alone;
}

pub returns-then-requires_ack-clause-goes : goal.returns-then-requires_ack-clause-goes
returns-then-requires_ack-clause-goes g c = quietly_leaves c.args.size c.args.sender.now c.transmit.new.sender
    c.count_ack.new.sender
    (held_quietly c.args.sender.now c.transmit.new.sender c.args.size c.in-Ok.said
    (sym c.requires_ack.ensures ∙ c.if-requires_ack.true) c.in-Ok.ensures.goes) c.count_ack.ensures.goes

pub returns-then-requires_ack-clause-timer : goal.returns-then-requires_ack-clause-timer
returns-then-requires_ack-clause-timer g c = λ known has. c.count_ack.ensures.timer known
    (c.in-Ok.ensures.timer known has)

pub returns-then-requires_ack-clause-items : goal.returns-then-requires_ack-clause-items
returns-then-requires_ack-clause-items g c = then_carries _ c.args.sender.now c.transmit.new.sender
    c.count_ack.new.sender
    c.in-Ok.ensures.items c.count_ack.ensures.items
