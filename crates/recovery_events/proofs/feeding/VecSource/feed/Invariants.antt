use Rattle.recovery_events.specs.Feeding.{TakesAll}
use Rattle.recovery_events.proofs.feeding.VecSource.feed.Given as goal

abbrev pub invariant-loop-item : goal.invariant-loop-item
invariant-loop-item g l = TakesAll g.S.Sink.takes l.fn.sink l.yielded l.sink
