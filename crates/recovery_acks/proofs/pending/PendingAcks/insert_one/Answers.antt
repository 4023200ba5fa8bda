use Rattle.std.proofs.Common.{refl}
use Rattle.recovery_acks.proofs.pending.PendingAcks.insert_one.Goals as goal

pub returns-clause-inserts : goal.returns-clause-inserts
returns-clause-inserts c = rw (← c.self.view_is) (record {
  pending = c.in_ok-insert.ensures.pending;
  some = c.in_ok-insert.ensures.some;
  counts = rw c.larger.ensures refl;
  others = (refl, refl);
})
