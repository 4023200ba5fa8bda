use Rattle.recovery_pair.proofs.RunLaws.{along_source}
use Rattle.recovery_pair.proofs.runs.run_over.Goals as goal

pub returns : goal.returns
returns g c = along_source g.S.Sink.takes _ (λ runner. runner.pair.client.sender) (λ runner. runner.pair.server.sender)
    (λ runner. runner.pair.wire.items) (λ runner. runner.pair.client.waiting.items)
    (λ runner. runner.pair.server.waiting.items) (λ runner. runner.said) (λ old step new passes. passes) _
    c.feed.ensures.items _ c.feed.new.sink c.feed.ensures.given c.feed.ensures.taken
