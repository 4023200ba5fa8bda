use Rattle.recovery_sender_program.proofs.CallLaws.{none_passed, passed_read}
use Rattle.recovery_sender_program.proofs.lines.passed.Goals as goal

pub returns-in-Some : goal.returns-in-Some
returns-in-Some c =
    passed_read c.args.line.now c.in-Some.event (rw (c.in-Some.is) at c.in_ok-event.ensures.found)
    c.passing.result c.passing.ensures

pub returns-in-None : goal.returns-in-None
returns-in-None c = none_passed c.args.line.now (rw (c.in-None.is) at c.in_ok-event.ensures.found)
