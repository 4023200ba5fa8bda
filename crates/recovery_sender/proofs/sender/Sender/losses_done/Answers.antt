use Rattle.recovery_sender.proofs.LeadLaws.{none_ended, some_ended}
use Rattle.recovery_sender.proofs.sender.Sender.losses_done.Goals as goal

pub returns : goal.returns
returns g c = record {
  goes = rw c.is_reported.ensures (some_ended c.args.now c.tell-answer.result c.args.numbers.now _ _
      c.if-is_empty.ensures c.tell-answer.ensures);
  none = λ none. absurd (none_ended c.args.numbers.now c.if-is_empty.ensures none);
}
