use Rattle.recovery_replay.specs.Giving.{YieldsItems}
use Rattle.recovery_replay.proofs.ScriptLaws.{Extends}
use Rattle.recovery_replay.proofs.script.read_script.Given as goal

abbrev pub invariant-loop : goal.invariant-loop
invariant-loop g l =
    YieldsItems g.S.Sink.takes (Extends (g.R.Read.remaining l.fn.input) (g.R.Read.remaining l.input) l.script)
    l.fn.sink
    l.sink
