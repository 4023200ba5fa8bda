use Rattle.std.proofs.Common.{inr, rules}
use Rattle.recovery_replay.proofs.ReadingLaws.{line_over, one_more, short, stopped}
use Rattle.recovery_replay.proofs.reading.next_line.Goals as goal

pub returns-in-Ok-Some-eq10 : goal.returns-in-Ok-Some-eq10
returns-in-Ok-Some-eq10 g c =
    line_over (g.R.Read.remaining c.args.input.now) (g.R.Read.remaining c.loop.input)
    (g.R.Read.remaining c.next_byte.new.input) c.loop.line.items c.loop.invariant (search rules)

pub keep-requires : goal.keep-requires
keep-requires g c = short (g.R.Read.remaining c.args.input.now) (g.R.Read.remaining c.loop.input) c.loop.line.items
    c.loop.invariant

pub loop-preserved : goal.loop-preserved
loop-preserved g c =
    one_more (g.R.Read.remaining c.args.input.now) (g.R.Read.remaining c.loop.input)
    (g.R.Read.remaining c.next_byte.new.input) c.loop.line.items c.keep.new.line.items c.in-Ok-Some.byte
    c.loop.invariant (search rules) (search rules) c.in-Ok.ensures.kept

pub returns-in-Err-keep : goal.returns-in-Err-keep
returns-in-Err-keep g c =
    stopped (g.R.Read.remaining c.args.input.now) (g.R.Read.remaining c.loop.input)
    (g.R.Read.remaining c.next_byte.new.input) c.loop.line.items c.in-Ok-Some.byte c.in-Err-keep.unread
    c.loop.invariant (search rules) (search rules) (inr c.in-Err-keep.ensures.memory)
