use Rattle.recovery_replay.specs.Giving.{YieldsItems}
use Rattle.recovery_replay.proofs.GivingLaws.{SoFar}
use Rattle.recovery_replay.proofs.giving.give_all.Given as goal

abbrev pub invariant-loop-number : goal.invariant-loop-number
invariant-loop-number g l =
    YieldsItems g.S.Sink.takes (SoFar g.G.Grammar.encodes g.G.Grammar.are_short (g.R.Read.remaining l.fn.input)
    (g.R.Read.remaining l.input)
    (g.E.Write.contents l.fn.errors) (g.E.Write.contents l.errors) l.number) l.fn.sink l.sink
