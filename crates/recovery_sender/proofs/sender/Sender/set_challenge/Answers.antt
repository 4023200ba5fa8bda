use Rattle.recovery_sender.proofs.StepLaws.{does_behind}
use Rattle.recovery_sender.proofs.TimerKeptLaws.{marks_left}
use Rattle.recovery_sender.proofs.sender.Sender.set_challenge.Goals as goal

pub returns : goal.returns
returns g c = does_behind _ _ _ _ c.mark_challenge.ensures c.time_on.ensures

pub time_on-requires : goal.time_on-requires
time_on-requires g c =
    let left = marks_left c.args.self.now c.mark_challenge.new.self _ c.mark_challenge.ensures in
    record {
      timed = λ was. left.0 (c.is_known_timed-was_timed.ensures was);
      known = λ was. left.1 _ c.known_pto-known.ensures;
    }
