use Rattle.std.proofs.Common.{refl}
use Rattle.recovery_pair.proofs.ItemMoves.{calls_move}
use Rattle.recovery_pair.proofs.endpoint.Endpoint.local.Goals as goal

pub returns-in-Err-clause-items : goal.returns-in-Err-clause-items
returns-in-Err-clause-items g c = rw c.in-Expire.is (calls_move _ c.args.self.now.sender c.expire.new.sender
    c.args.self.now.waiting.items c.args.self.now.waiting.items c.in-Err.ensures.items refl)

pub returns-in-Ok-clause-finds : goal.returns-in-Ok-clause-finds
returns-in-Ok-clause-finds g c = rw c.in-Expire.is c.in-Ok.ensures.finds

pub returns-in-Err-clause-finds : goal.returns-in-Err-clause-finds
returns-in-Err-clause-finds g c = rw c.in-Expire.is c.in-Err.ensures.finds

pub returns-in-Ok-clause-acts : goal.returns-in-Ok-clause-acts
returns-in-Ok-clause-acts g c = rw c.in-Expire.is c.in-Ok.ensures.acts

pub returns-in-Err-clause-acts : goal.returns-in-Err-clause-acts
returns-in-Err-clause-acts g c = rw c.in-Expire.is c.in-Err.ensures.acts

pub returns-in-Ok-clause-asks : goal.returns-in-Ok-clause-asks
returns-in-Ok-clause-asks g c = rw c.in-Expire.is c.in-Ok.ensures.asks

pub returns-in-Err-clause-asks : goal.returns-in-Err-clause-asks
returns-in-Err-clause-asks g c = rw c.in-Expire.is tt

pub returns-in-HandshakeKeys-clause-timer : goal.returns-in-HandshakeKeys-clause-timer
returns-in-HandshakeKeys-clause-timer g c = rw c.in-HandshakeKeys.is assumption

pub returns-in-HandshakeConfirmed-clause-timer : goal.returns-in-HandshakeConfirmed-clause-timer
returns-in-HandshakeConfirmed-clause-timer g c = rw c.in-HandshakeConfirmed.is assumption

pub returns-in-AddressValidated-clause-timer : goal.returns-in-AddressValidated-clause-timer
returns-in-AddressValidated-clause-timer g c = rw c.in-AddressValidated.is assumption

pub returns-in-Late-clause-timer : goal.returns-in-Late-clause-timer
returns-in-Late-clause-timer g c = rw c.in-Late.is c.end_delay.ensures.timer

pub returns-in-Ok-discard-clause-timer : goal.returns-in-Ok-discard-clause-timer
returns-in-Ok-discard-clause-timer g c = rw c.in-Discard.is assumption

pub returns-in-Err-discard-clause-timer : goal.returns-in-Err-discard-clause-timer
returns-in-Err-discard-clause-timer g c = rw c.in-Discard.is c.in-Err-discard.ensures.timer

pub returns-in-Ok-clause-timer : goal.returns-in-Ok-clause-timer
returns-in-Ok-clause-timer g c = rw c.in-Expire.is c.in-Ok.ensures.timer

pub returns-in-Err-clause-timer : goal.returns-in-Err-clause-timer
returns-in-Err-clause-timer g c = rw c.in-Expire.is c.in-Err.ensures.timer
