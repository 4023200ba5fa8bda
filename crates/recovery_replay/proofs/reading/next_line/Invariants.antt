use Rattle.recovery_replay.proofs.ReadingLaws.{Taken}
use Rattle.recovery_replay.proofs.reading.next_line.Given as goal

abbrev pub invariant-loop : goal.invariant-loop
invariant-loop g l = Taken (g.R.Read.remaining l.fn.input) (g.R.Read.remaining l.input) l.line.items
