use Rattle.recovery_sender.proofs.RunLaws.{runs_from}
use Rattle.recovery_sender.proofs.runs.run_over.Goals as goal

pub returns : goal.returns
returns g c = runs_from g.S.Sink.takes _ (λ runner. runner.caller.sender) (λ runner. runner.said)
    (λ old call new passes. passes) _ c.feed.ensures.items _ c.feed.new.sink c.feed.ensures.given c.feed.ensures.taken
