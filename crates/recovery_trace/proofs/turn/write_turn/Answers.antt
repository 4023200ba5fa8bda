use Rattle.std.proofs.Common.{rules, string_bytes}
use Rattle.quic_recovery.specs.State.{state_of}
use Rattle.recovery_trace.specs.Qlog.{metrics_text, note_text}
use Rattle.recovery_trace.proofs.StateTextLaws.{two}
use Rattle.recovery_trace.proofs.turn.write_turn.Goals as goal

pub returns-in_ok-write_note-in-Qlog : goal.returns-in_ok-write_note-in-Qlog
returns-in_ok-write_note-in-Qlog g c =
    rw c.in-Qlog.is (two c.write_metrics.result (string_bytes c.args.text.now) (string_bytes c.write_note.new.text)
    (string_bytes c.write_metrics.new.text) (note_text c.args.time c.args.note c.args.reply.now)
    (metrics_text g.F.Controller.Controller.words c.args.time (state_of c.args.recovery.now).paths.current)
    (search rules) (search rules))
