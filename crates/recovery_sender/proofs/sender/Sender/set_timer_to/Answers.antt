use Rattle.std.proofs.Common.{inr, refl, sym, true≢false, ◌∙◌}
use Rattle.recovery_history.specs.History.{queue_model}
use Rattle.recovery_sender.specs.Senders.{state_in}
use Rattle.recovery_sender.specs.Timer.{TimerIsSet}
use Rattle.recovery_sender.proofs.BoundLaws.{stays_threefold}
use Rattle.recovery_sender.proofs.LivenessLaws.{never_stalls}
use Rattle.recovery_sender.proofs.RunningLaws.{keeps_time}
use Rattle.recovery_sender.proofs.TimerLaws.{still_only, timer_sets}
use Rattle.recovery_sender.proofs.sender.Sender.set_timer_to.Goals as goal

pub keep_timer-requires : goal.keep_timer-requires
keep_timer-requires g c = record {
  timed = rw c.requires.due at c.is_set_to.ensures.0 c.if-is_set_to.true;
  known = c.requires.known;
}

pub invariant_of-self : goal.invariant_of-self
invariant_of-self g c =
    let sets = timer_sets g.F.ControllerFactory.built g.F.Controller.Controller.words
    (queue_model g.Q.RetransmitQueue.contents g.Q.RetransmitQueue.words g.Q.RetransmitQueue.blank)
    c.args.self.now.variables (state_in c.args.self.now) c.tell_timer.result (state_in c.tell_timer.new.self)
    (rw c.requires.due at c.tell_timer.ensures.leads) in
    let known = still_only g.F.ControllerFactory.built g.F.Controller.Controller.words
    (queue_model g.Q.RetransmitQueue.contents g.Q.RetransmitQueue.words g.Q.RetransmitQueue.blank)
    c.args.self.now.variables (state_in c.args.self.now) c.tell_timer.result (state_in c.tell_timer.new.self)
    c.args.known (rw c.requires.due at c.tell_timer.ensures.leads) c.requires.known in
    record {
      bounded = c.tell_timer.new.self.bounded;
      explained = c.tell_timer.new.self.explained;
      timed = λ is. rw c.tell_timer.ensures.variables sets.1;
      known = λ is. rw c.tell_timer.ensures.variables known;
    }

pub returns : goal.returns
returns g c =
    let variables = c.args.self.now.variables in
    let sets = timer_sets g.F.ControllerFactory.built g.F.Controller.Controller.words
    (queue_model g.Q.RetransmitQueue.contents g.Q.RetransmitQueue.words g.Q.RetransmitQueue.blank) variables
    (state_in c.args.self.now) c.tell_timer.result (state_in c.tell_timer.new.self)
    (rw c.requires.due at c.tell_timer.ensures.leads) in
    let timer : TimerIsSet (state_in c.tell_timer.new.self) c.tell_timer.new.self.variables =
    rw c.tell_timer.ensures.variables sets.1 in
    let was_set = rw c.requires.due at c.is_set_to.ensures.1 in
    record {
      between = state_in c.args.self.now;
      leads = refl;
      sets = inr (λ set. true≢false (sym (was_set set) ∙ c.if-is_set_to.false), sets.0);
      variables = c.tell_timer.ensures.variables;
      timer = timer;
      limited = stays_threefold c.tell_timer.new.self;
      alive = never_stalls c.tell_timer.new.self _ timer;
      running = keeps_time c.tell_timer.new.self timer (never_stalls c.tell_timer.new.self _ timer);
    }
