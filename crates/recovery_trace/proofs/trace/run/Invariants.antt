use Rattle.recovery_replay.specs.Playing.{streams_of}
use Rattle.recovery_trace.proofs.GoingLaws.{Going}
use Rattle.recovery_trace.proofs.trace.run.Given as goal

abbrev pub invariant-loop-number : goal.invariant-loop-number
invariant-loop-number g l = Going l.choice l.fn.live.recovery
    (streams_of (g.R.Read.remaining l.fn.input) (g.R.Read.remaining l.input) (g.W.Write.contents l.fn.output)
    (g.W.Write.contents l.output) (g.E.Write.contents l.fn.errors) (g.E.Write.contents l.errors)) l.live.recovery
    l.time l.ended
    l.number
