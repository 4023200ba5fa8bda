use Rattle.std.proofs.Common.{Ok}
use Rattle.recovery_engine.proofs.sending.Sending.retransmit_all.Goals as goal

pub returns-in-Ok : goal.returns-in-Ok
returns-in-Ok c = record {
  reply = Ok c.in-Ok.all;
  comes = rw c.keep_losses.ensures.sender c.in-Ok.ensures;
  spells = c.plain.ensures;
  told = rw c.lost_alone.ensures at c.keep_losses.ensures.told;
}
