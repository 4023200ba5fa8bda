use Rattle.recovery_script_syntax.proofs.PushLaws.{send_read}
use Rattle.recovery_script_syntax.proofs.lines.put_send.Goals as goal

pub returns : goal.returns
returns g c = send_read g.S.Sink.takes _ _ _ _ _ _ c.in_ok-line.ensures.found c.put_read.ensures
