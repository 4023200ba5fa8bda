use Rattle.recovery_script_syntax.proofs.PushLaws.{other_said, puts_said, send_line, send_puts}
use Rattle.recovery_script_syntax.proofs.lines.put_event.Goals as goal

pub returns-then-is_name : goal.returns-then-is_name
returns-then-is_name g c =
    let put = send_puts g.S.Sink.takes c.args.line.now _ _ _ _ (send_line c.args.line.now _ _ _ c.new-words.ensures
    c.in-Some.ensures c.if-is_name.ensures) c.if-line-gt-LINE_LIMIT.false c.put_send.ensures in
    record { found = put.0; memory = put.1; kept = put.2 }

pub returns : goal.returns
returns g c =
    let put = puts_said g.S.Sink.takes c.args.line.now _ _ _ _ (other_said c.args.line.now _ _ _ c.new-words.ensures
    c.in-Some.ensures c.if-is_name.ensures) c.if-line-gt-LINE_LIMIT.false c.put_behind.ensures in
    record { found = put.0; memory = put.1; kept = put.2 }
