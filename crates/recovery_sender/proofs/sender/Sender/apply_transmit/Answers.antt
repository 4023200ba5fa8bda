use Rattle.std.proofs.Common.{refl}
use Rattle.quic_recovery.specs.State.{state_of}
use Rattle.recovery_sender.proofs.BoundLaws.{recovery_keeps_bounds}
use Rattle.recovery_sender.proofs.SampleLaws.{event_explained}
use Rattle.recovery_sender.specs.Senders.{state_in}
use Rattle.recovery_sender.proofs.sender.Sender.apply_transmit.Goals as goal

pub invariant_of-self-clause-bounded : goal.invariant_of-self-clause-bounded
invariant_of-self-clause-bounded g c =
    recovery_keeps_bounds _ c.transmit.result c.args.self.now.recovery.recovery c.transmit.new.self.recovery
    g.met.F.Controller.Controller.laws g.met.F.ControllerFactory.starts_by_now c.requires.limit
    c.transmit.ensures.changes c.args.self.now.bounded

pub invariant_of-self-clause-explained : goal.invariant_of-self-clause-explained
invariant_of-self-clause-explained g c =
    event_explained (state_in c.args.self.now) (state_of c.transmit.new.self.recovery) _ c.transmit.result
    c.transmit.ensures.extends c.transmit.ensures.changes.marks c.args.self.now.explained

pub returns : goal.returns
returns g c = record {
  leads = (state_of c.transmit.new.self.recovery, c.transmit.ensures.changes, c.transmit.ensures.extends, refl);
  variables = refl;
}
