use Rattle.std.proofs.Common.{[]}
use Rattle.quic_recovery.proofs.live.LiveRecovery.new.Goals as goal

pub invariant_of-result : goal.invariant_of-result
invariant_of-result g c = record {
  came = ∣ record {
    config = c.args.config;
    start = c.args.now;
    random = g.R.Rng.stream c.args.rng;
    past = [];
    came = c.in_ok-recovery.ensures.came;
  } ∣₁;
}
