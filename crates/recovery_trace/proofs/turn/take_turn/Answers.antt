use Rattle.std.proofs.Common.{string_bytes, rules}
use Rattle.recovery_trace.proofs.TurnLaws.{broken_off}
use Rattle.recovery_trace.proofs.turn.take_turn.Goals as goal

pub returns-in-Err-write_out : goal.returns-in-Err-write_out
returns-in-Err-write_out g c =
    broken_off c.args.shows c.args.line.now c.args.number c.args.live.now.recovery c.answer.new.live.recovery
    c.args.time.now c.answer.new.time
    (g.W.Write.contents c.args.output.now) (g.W.Write.contents c.write_out.new.output)
    (g.E.Write.contents c.args.errors.now) (g.E.Write.contents c.args.errors.now) c.in-Err-write_out.outcome
    (string_bytes c.answer.new.text) (search rules) (search rules) (search rules) (search rules)
