use Rattle.recovery_pair.proofs.QuietLaws.{call_quietly}
use Rattle.std.proofs.Common.{refl}
use Rattle.recovery_pair.specs.AddressKnown.{with_keys}
use Rattle.recovery_pair.proofs.ItemLaws.{call_carries}
use Rattle.recovery_pair.proofs.TimedLaws.{call_timer}
use Rattle.recovery_pair.proofs.calls.get_keys.Goals as goal

pub returns-clause-goes : goal.returns-clause-goes
returns-clause-goes g c = call_quietly _ _ c.args.sender.now c.on_handshake_keys.new.self
    c.on_handshake_keys.ensures tt

pub returns-clause-timer : goal.returns-clause-timer
returns-clause-timer g c = call_timer c.args.sender.now c.on_handshake_keys.new.self with_keys c.args.sender.now _ _
    c.on_handshake_keys.ensures refl

pub returns-clause-items : goal.returns-clause-items
returns-clause-items g c = call_carries _ _ c.args.sender.now c.on_handshake_keys.new.self
    c.on_handshake_keys.ensures tt
