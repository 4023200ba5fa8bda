use Rattle.quic_recovery.proofs.LiveLaws.{applies_event, comes_live}
use Rattle.quic_recovery.proofs.live.LiveRecovery.continue_path.Goals as goal

pub invariant_of-self : goal.invariant_of-self
invariant_of-self g c = record {
  came = comes_live c.args.self.now.recovery _ _ c.continue_path.new.self c.continue_path.ensures c.args.self.now.came;
}

pub returns : goal.returns
returns g c =
    applies_event c.args.self.now.recovery _ _ c.continue_path.new.self c.continue_path.ensures c.args.self.now.came
