use Rattle.std.proofs.Common.{inl, refl}
use Rattle.recovery_sender.specs.Senders.{state_in}
use Rattle.recovery_sender.proofs.BoundLaws.{stays_threefold}
use Rattle.recovery_sender.proofs.RunningLaws.{keeps_time}
use Rattle.recovery_sender.proofs.LivenessLaws.{never_stalls}
use Rattle.recovery_sender.proofs.sender.Sender.keep_timer.Goals as goal

pub returns : goal.returns
returns g c =
    let timer = c.requires.timed in
    record {
      between = state_in c.args.self.now;
      leads = refl;
      sets = inl (timer, refl);
      variables = refl;
      timer = timer;
      limited = stays_threefold c.args.self.now;
      alive = never_stalls c.args.self.now _ timer;
      running = keeps_time c.args.self.now timer (never_stalls c.args.self.now _ timer);
    }
