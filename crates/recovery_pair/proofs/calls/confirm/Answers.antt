use Rattle.recovery_pair.proofs.QuietLaws.{call_quietly}
use Rattle.recovery_pair.specs.AddressKnown.{with_confirmation}
use Rattle.recovery_pair.proofs.ItemLaws.{call_carries}
use Rattle.recovery_pair.proofs.KnownLaws.{confirmed_known}
use Rattle.recovery_pair.proofs.TimedLaws.{call_timer}
use Rattle.recovery_pair.proofs.calls.confirm.Goals as goal

pub returns-clause-goes : goal.returns-clause-goes
returns-clause-goes g c = call_quietly _ _ c.args.sender.now c.on_handshake_confirmed.new.self
    c.on_handshake_confirmed.ensures tt

pub returns-clause-timer : goal.returns-clause-timer
returns-clause-timer g c = call_timer c.args.sender.now c.on_handshake_confirmed.new.self with_confirmation
    c.args.sender.now _ _
    c.on_handshake_confirmed.ensures (confirmed_known c.args.sender.now.variables)

pub returns-clause-items : goal.returns-clause-items
returns-clause-items g c = call_carries _ _ c.args.sender.now c.on_handshake_confirmed.new.self
    c.on_handshake_confirmed.ensures tt
