use Rattle.std.proofs.Common.{Some, ap, sym, ◌∙◌}
use Rattle.recovery_sender.specs.Senders.{state_in}
use Rattle.recovery_sender.proofs.AckedLaws.{sent_elsewhere, sent_there}
use Rattle.recovery_sender.proofs.sender.Sender.sent_on.Goals as goal

pub returns-then-packet-generation : goal.returns-then-packet-generation
returns-then-packet-generation g c = rw (← c.in_ok-packet.ensures) (sent_elsewhere (state_in c.args.self.now)
    c.in_ok-packet.packet.now (λ generation. c.if-packet-generation.true
    (ap (λ packet. packet.path_generation) c.packet.view_is ∙ generation
    ∙ sym (c.generation.ensures ∙ ap (λ path. path.ledger.generation) c.path.ensures))))

pub returns : goal.returns
returns g c = rw (← c.in_ok-packet.ensures) (ap (λ packet. Some packet.time_sent) c.packet.view_is
    ∙ sent_there (state_in c.args.self.now) c.in_ok-packet.packet.now
    (sym (ap (λ packet. packet.path_generation) c.packet.view_is) ∙ c.if-packet-generation.false
    ∙ c.generation.ensures ∙ ap (λ path. path.ledger.generation) c.path.ensures))
