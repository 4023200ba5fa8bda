use Rattle.std.proofs.Common.{◌≡◌, true}
use Rattle.recovery_sender.proofs.TimerKeptLaws.{receives_left}
use Rattle.recovery_sender.proofs.StepLaws.{does_behind}
use Rattle.recovery_sender.proofs.sender.Sender.on_datagram.Goals as goal

pub returns-clause-steps : goal.returns-clause-steps
returns-clause-steps g c = does_behind _ _ _ _ c.receive.ensures c.time_on.ensures

pub time_on-requires : goal.time_on-requires
time_on-requires g c =
    let known = c.is_timed_unlimited-was_timed.ensures in
    let left = λ (was : c.is_timed_unlimited-was_timed.result ≡ true).
    receives_left c.args.self.now _ c.args.bytes c.receive.ensures (known.unlimited was) in
    record {
      timed = λ was. (left was).0 (known.timed was);
      known = λ was. (left was).1 _ c.known_pto-known.ensures;
    }
