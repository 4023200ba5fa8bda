use Rattle.std.proofs.Common.{refl}
use Rattle.recovery_sender.proofs.PromiseLaws.{none_left, some_left}
use Rattle.recovery_sender.proofs.sender.Sender.on_newly_acked.Goals as goal

pub returns-then-is_empty : goal.returns-then-is_empty
returns-then-is_empty g c = record {
  numbers = refl;
  none = λ none. record { lost = c.none.ensures; ecn = refl; rtt = refl; does = c.set_loss_detection_timer.ensures };
  some = λ some. absurd (some (none_left c.args.newly.numbers c.if-is_empty.ensures));
}

pub returns : goal.returns
returns g c = record {
  numbers = c.acknowledge.ensures.numbers;
  none = λ none. absurd (some_left c.args.newly.numbers c.if-is_empty.ensures none);
  some = λ some. c.acknowledge.ensures.stages;
}
