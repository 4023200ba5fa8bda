use Rattle.std.proofs.Common.{false, true≢false, Ok, refl, sym}
use Rattle.quic_recovery.specs.State.{state_of}
use Rattle.recovery_events.specs.declared.event.Answer.TheVariants.{Done}
use Rattle.recovery_events.specs.declared.event.Event.TheVariants.{NewPath}
use Rattle.recovery_sender.proofs.BoundLaws.{recovery_keeps_bounds}
use Rattle.recovery_sender.proofs.SampleLaws.{event_explained}
use Rattle.recovery_sender.specs.Senders.{state_in}
use Rattle.recovery_sender.proofs.sender.Sender.continue_path.Goals as goal

pub invariant_of-self : goal.invariant_of-self
invariant_of-self g c =
    let old = c.args.self.now in
    let new = c.continue_path.new.self.recovery in
    record {
      bounded = recovery_keeps_bounds (NewPath c.args.now c.args.remote false) (Ok Done) old.recovery.recovery new
          g.met.F.Controller.Controller.laws g.met.F.ControllerFactory.starts_by_now c.requires.early
          c.continue_path.ensures.changes old.bounded;
      explained = event_explained (state_in old) (state_of new) (NewPath c.args.now c.args.remote false) (Ok Done)
          c.continue_path.ensures.extends c.continue_path.ensures.changes.marks old.explained;
      timed = λ never. absurd (true≢false (sym never));
      known = λ never. absurd (true≢false (sym never));
    }

pub returns : goal.returns
returns g c = record {
  leads = (
    state_of c.continue_path.new.self.recovery,
    c.continue_path.ensures.changes,
    c.continue_path.ensures.extends,
    refl,
  );
  variables = refl;
}
