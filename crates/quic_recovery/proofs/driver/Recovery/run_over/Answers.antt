use Rattle.std.proofs.Common.{refl}
use Rattle.recovery_history.specs.History.{queue_model}
use Rattle.quic_recovery.specs.State.{state_of}
use Rattle.quic_recovery.proofs.OverLaws.{runs_from}
use Rattle.quic_recovery.proofs.driver.Recovery.run_over.Goals as goal

pub returns-clause-runs : goal.returns-clause-runs
returns-clause-runs g c = runs_from g.F.ControllerFactory.built g.F.Controller.Controller.words
    (queue_model g.Q.RetransmitQueue.contents g.Q.RetransmitQueue.words g.Q.RetransmitQueue.blank)
    c.args.config c.args.start (g.R.Rng.stream c.args.rng) _ g.S.Sink.takes
    (λ runner. state_of runner.recovery) (λ runner. runner.replies)
    (λ old event new passes. (passes.reply, passes.changes, passes.extends, passes.taken)) c.args.replies
    c.feed.ensures.items _ c.feed.new.sink c.feed.ensures.taken c.in_ok-recovery.ensures.came
    c.in_ok-recovery.ensures.marks c.in_ok-recovery.ensures.state_after.loss_times refl _ c.feed.ensures.given
