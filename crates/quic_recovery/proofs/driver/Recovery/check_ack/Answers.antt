use Rattle.std.proofs.Common.{refl, sym, arith}
use Rattle.recovery_spaces.proofs.ReceivedLaws.{fails}
use Rattle.recovery_history.specs.Transitions.{inputs_of}
use Rattle.quic_recovery.specs.State.{state_of}
use Rattle.recovery_history.proofs.ProbeStepLaws.{skip_acked, acks_skip}
use Rattle.quic_recovery.proofs.driver.Recovery.check_ack.Goals as goal

pub returns-in-Ok : goal.returns-in-Ok
returns-in-Ok g c = (
  fails _ (sym c.if-contains.ensures),
  (
    (λ large. omega arith),
    (
      (λ less. omega arith),
      (
        (λ acked. c.in-Ok.ensures (acks_skip (inputs_of (state_of c.args.self.now)) _ _ _ c.new.ensures.start
            c.new.ensures.end c.new.ensures.exhausted c.args.space acked)),
        refl,
      ),
    ),
  ),
)

pub returns-in-Err : goal.returns-in-Err
returns-in-Err g c = (
  fails _ (sym c.if-contains.ensures),
  (
    (λ large. omega arith),
    (
      (λ less. omega arith),
      skip_acked (inputs_of (state_of c.args.self.now)) _ _ _ c.new.ensures.start c.new.ensures.end
          c.new.ensures.exhausted c.args.space c.in-Err.ensures.0,
    ),
  ),
)
