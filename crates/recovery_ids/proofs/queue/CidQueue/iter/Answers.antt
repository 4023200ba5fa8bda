use Rattle.recovery_ids.specs.Window.{ids_in}
use Rattle.recovery_ids.proofs.IterLaws.{length-items_from}
use Rattle.recovery_ids.proofs.queue.CidQueue.iter.Goals as goal

pub returns-clause-few : goal.returns-clause-few
returns-clause-few c = rw c.items.ensures (length-items_from (ids_in c.self.inside.window))
