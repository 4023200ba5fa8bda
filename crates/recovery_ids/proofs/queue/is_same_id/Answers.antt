use Rattle.recovery_ids.proofs.RepeatLaws.{same_id}
use Rattle.recovery_ids.proofs.queue.is_same_id.Goals as goal

pub returns : goal.returns
returns c = same_id c.args.one.now c.args.other.now c.eq.result c.eq.ensures
