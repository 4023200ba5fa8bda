use Rattle.std.proofs.Common.{string_bytes}
use Rattle.recovery_replay.proofs.FaultReportLaws.{never, shown_plain}
use Rattle.recovery_replay.proofs.fault_reports.write_word.Goals as goal

pub returns-in-Ok : goal.returns-in-Ok
returns-in-Ok c =
    shown_plain (string_bytes c.args.text.now) (string_bytes c.write.new.self) c.args.word.now c.shown_len.result
    c.write.result c.in-Ok.said.now c.in-Ok.ensures.cases.0 c.shown_len.ensures.plain c.write.ensures.bytes

pub returns-in-Err : goal.returns-in-Err
returns-in-Err c =
    never (string_bytes c.args.text.now) (string_bytes c.write-in-Err.new.self) c.args.word.now c.shown_len.result
    c.write-in-Err.result c.in-Err.ensures.cases.0
