use Rattle.std.proofs.Common.{rules}
use Rattle.recovery_trace.proofs.GoingLaws.{at_end, begun, cut_off, last_bad, last_done, one_bad, one_done, over, strict_bad, too_many, whole}
use Rattle.recovery_trace.proofs.trace.run.Goals as goal
use Rattle.recovery_trace.proofs.trace.run.Goals.{in-Done, in-Bad-2}

pub loop-number-init : goal.loop-number-init
loop-number-init g c =
    begun c.args.choice c.args.live.now.recovery (g.R.Read.remaining c.args.input.now)
    (g.W.Write.contents c.args.output.now) (g.E.Write.contents c.args.errors.now)

pub returns-in-Ok-None : goal.returns-in-Ok-None
returns-in-Ok-None g c =
    at_end c.args.choice c.args.live.now.recovery _ _ (g.R.Read.remaining c.next_line.new.input) _ _
    (g.W.Write.contents c.loop-number.output) _ _ (g.E.Write.contents c.loop-number.errors) c.loop-number.live.recovery
    c.loop-number.time c.loop-number.ended c.loop-number.number c.loop-number.invariant c.next_line.new.line.items
    c.in-Ok-None.field-0 (search rules) c.in-Ok-None.ensures

pub returns-in-Err : goal.returns-in-Err
returns-in-Err g c =
    cut_off c.args.choice c.args.live.now.recovery _ _ (g.R.Read.remaining c.next_line.new.input) _ _
    (g.W.Write.contents c.loop-number.output) _ _ (g.E.Write.contents c.loop-number.errors) c.loop-number.live.recovery
    c.loop-number.time c.loop-number.ended c.loop-number.number c.loop-number.invariant c.in-Err.unread c.in-Err.ensures
    c.from.result c.from.ensures

pub returns-in-Bad : goal.returns-in-Bad
returns-in-Bad g c =
    strict_bad c.args.choice c.args.live.now.recovery _ _ (g.R.Read.remaining c.next_line.new.input) _ _
    (g.W.Write.contents c.take_turn.new.output) _ _ (g.E.Write.contents c.take_turn.new.errors)
    c.loop-number.live.recovery c.loop-number.time c.loop-number.ended c.loop-number.number c.loop-number.invariant
    c.take_turn.new.live.recovery c.take_turn.new.time c.deref.result.now c.next_line.new.line.items
    c.deref.ensures.value c.in-Ok-Some.next c.in-Ok-Some.field-0 (search rules) c.in-Ok-Some.ensures
    c.if-choice.true c.in-Bad.ensures

pub returns-in-Over : goal.returns-in-Over
returns-in-Over g c =
    over c.args.choice c.args.live.now.recovery _ _ (g.R.Read.remaining c.next_line.new.input) _ _
    (g.W.Write.contents c.take_turn.new.output) _ _ (g.E.Write.contents c.take_turn.new.errors)
    c.loop-number.live.recovery c.loop-number.time c.loop-number.ended c.loop-number.number c.loop-number.invariant
    c.take_turn.new.live.recovery c.take_turn.new.time c.deref.result.now c.next_line.new.line.items
    c.deref.ensures.value c.in-Ok-Some.next c.in-Ok-Some.field-0 (search rules) c.in-Ok-Some.ensures
    c.in-Over.outcome c.in-Over.ensures

pub returns-in-Last : goal.returns-in-Last
returns-in-Last g c =
    elim c.match-take_turn.branch [
      | in-Done w ↦
          rw w.ended-is (last_done c.args.choice c.args.live.now.recovery _ _
          (g.R.Read.remaining c.next_line.new.input) _ _ (g.W.Write.contents c.take_turn.new.output) _ _
          (g.E.Write.contents c.take_turn.new.errors) c.loop-number.live.recovery c.loop-number.time c.loop-number.ended
          c.loop-number.number c.loop-number.invariant c.take_turn.new.live.recovery c.take_turn.new.time
          c.deref.result.now c.next_line.new.line.items c.deref.ensures.value
          c.in-Ok-Some.next c.in-Ok-Some.field-0 (search rules) c.in-Ok-Some.ensures c.in-Last.is w.in-Done.ensures)
      | in-Bad-2 w ↦
          rw w.ended-is (last_bad c.args.choice c.args.live.now.recovery _ _
          (g.R.Read.remaining c.next_line.new.input) _ _ (g.W.Write.contents c.take_turn.new.output) _ _
          (g.E.Write.contents c.take_turn.new.errors) c.loop-number.live.recovery c.loop-number.time c.loop-number.ended
          c.loop-number.number c.loop-number.invariant c.take_turn.new.live.recovery c.take_turn.new.time
          c.deref.result.now c.next_line.new.line.items c.deref.ensures.value
          c.in-Ok-Some.next c.in-Ok-Some.field-0 (search rules) c.in-Ok-Some.ensures c.in-Last.is w.if-choice.false
          w.in-Bad.ensures)
    ]

pub loop-number-preserved : goal.loop-number-preserved
loop-number-preserved g c =
    elim c.match-take_turn.branch [
      | in-Done w ↦
          rw w.ended-is (one_done c.args.choice c.args.live.now.recovery _ _
          (g.R.Read.remaining c.next_line.new.input) _ _ (g.W.Write.contents c.take_turn.new.output) _ _
          (g.E.Write.contents c.take_turn.new.errors) c.loop-number.live.recovery c.loop-number.time c.loop-number.ended
          c.loop-number.number c.loop-number.invariant c.take_turn.new.live.recovery c.take_turn.new.time
          c.deref.result.now c.next_line.new.line.items c.deref.ensures.value
          c.in-Ok-Some.next c.in-Ok-Some.field-0 (search rules) c.in-Ok-Some.ensures (whole _ c.in_default.not-Last)
          w.in-Done.ensures)
      | in-Bad-2 w ↦
          rw w.ended-is (one_bad c.args.choice c.args.live.now.recovery _ _
          (g.R.Read.remaining c.next_line.new.input) _ _ (g.W.Write.contents c.take_turn.new.output) _ _
          (g.E.Write.contents c.take_turn.new.errors) c.loop-number.live.recovery c.loop-number.time c.loop-number.ended
          c.loop-number.number c.loop-number.invariant c.take_turn.new.live.recovery c.take_turn.new.time
          c.deref.result.now c.next_line.new.line.items c.deref.ensures.value
          c.in-Ok-Some.next c.in-Ok-Some.field-0 (search rules) c.in-Ok-Some.ensures (whole _ c.in_default.not-Last)
          w.if-choice.false w.in-Bad.ensures)
    ]

pub returns : goal.returns
returns g c =
    let input = g.R.Read.remaining c.loop-number.input in
    let output = g.W.Write.contents c.loop-number.output in
    let errors = g.E.Write.contents c.loop-number.errors in
    too_many c.args.choice c.args.live.now.recovery (g.R.Read.remaining c.args.input.now) input input
    (g.W.Write.contents c.args.output.now) output output (g.E.Write.contents c.args.errors.now) errors errors
    c.loop-number.live.recovery c.loop-number.time c.loop-number.ended c.loop-number.number c.loop-number.invariant
