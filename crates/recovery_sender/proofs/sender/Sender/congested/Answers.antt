use Rattle.std.proofs.Common.{arith}
use Rattle.recovery_sender.proofs.LeadLaws.{occurred}
use Rattle.recovery_sender.proofs.sender.Sender.congested.Goals as goal

pub returns-in-Some : goal.returns-in-Some
returns-in-Some g c = rw (c.in-Some.is, ← c.start_at.ensures, ← c.sent_for.ensures) (occurred _ _ _ _ c.tell.ensures)

pub tell-requires-clause-stays : goal.tell-requires-clause-stays
tell-requires-clause-stays g c = rw c.start_at.ensures (omega arith)
