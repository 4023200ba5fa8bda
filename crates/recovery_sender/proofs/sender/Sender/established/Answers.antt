use Rattle.recovery_sender.proofs.sender.Sender.established.Goals as goal

pub returns-clause-begins : goal.returns-clause-begins
returns-clause-begins g c = record {
  first = c.in_ok-sender.sender;
  validated = c.on_address_validated.new.self;
  confirmed = c.on_handshake_confirmed.new.self;
  no_initial = c.discard-initial.new.self;
  replies = (c.discard-initial.result, c.discard-handshake.result);
  begins = c.in_ok-sender.ensures.begins;
  validates = c.on_address_validated.ensures;
  confirms = c.on_handshake_confirmed.ensures;
  ends_initial = record {
    same = c.discard-initial.ensures.reply;
    steps = c.discard-initial.ensures.steps;
    stays = c.discard-initial.ensures.refused;
  };
  ends_handshake = record {
    same = c.discard-handshake.ensures.reply;
    steps = c.discard-handshake.ensures.steps;
    stays = c.discard-handshake.ensures.refused;
  };
}
