use Rattle.std.proofs.Common.{◌≡◌, true, Ok, ◌∷◌, [], sym}
use Rattle.recovery_history.specs.History.{queue_model}
use Rattle.recovery_sender.specs.Calls.{after_event}
use Rattle.recovery_sender.specs.Senders.{state_in}
use Rattle.recovery_sender.specs.Steps.{told}
use Rattle.recovery_sender.proofs.BoundLaws.{passed_stays}
use Rattle.recovery_sender.proofs.EventLaws.{event_answered, event_failed, path_changed}
use Rattle.recovery_sender.proofs.TimerKeptLaws.{event_left}
use Rattle.recovery_sender.proofs.StepLaws.{does_as, does_behind_with, told_changes}
use Rattle.recovery_sender.proofs.sender.Sender.on_event.Goals as goal

pub returns-then-changes_path : goal.returns-then-changes_path
returns-then-changes_path g c = rw (← c.backdate.ensures.value) (path_changed c.backdate.new.event c.args.self.now _
    c.if-changes_path.ensures c.change_path.result c.change_path.ensures)

pub returns-in-Ok : goal.returns-in-Ok
returns-in-Ok g c =
    rw (← c.backdate.ensures.value) (event_answered c.backdate.new.event c.args.self.now _ c.if-changes_path.ensures
    c.in-Ok.answer (does_behind_with (after_event c.backdate.new.event c.in-Ok.answer)
    (told c.backdate.new.event (Ok c.in-Ok.answer) ∷ []) c.args.self.now _ _ c.in-Ok.ensures
    (does_as _ _ _ _ _ (sym c.count_sent.ensures.state) (rw (c.to_send-time.ensures, c.elicits_in-elicits.ensures)
    at c.count_sent.ensures.variables) c.time_on.ensures)))

pub time_on-requires : goal.time_on-requires
time_on-requires g c =
    let known = c.is_left_by-was_timed.ensures in
    let kept = rw (c.to_send-time.ensures, c.elicits_in-elicits.ensures, c.in-Ok.ensures.variables)
    at c.count_sent.ensures.variables in
    let left = λ (was : c.is_left_by-was_timed.result ≡ true). event_left
    (queue_model g.Q.RetransmitQueue.contents g.Q.RetransmitQueue.words g.Q.RetransmitQueue.blank)
    c.args.self.now.variables (state_in c.args.self.now) _ c.backdate.new.event c.in-Ok.answer (known.leaves was)
    (told_changes _ _ _ _ c.in-Ok.ensures) (state_in c.count_sent.new.self) c.count_sent.new.self.variables
    c.count_sent.ensures.state kept in
    record {
      timed = λ was. (left was).0 (known.timed was);
      known = λ was. (left was).1 _ c.known_pto-known.ensures;
    }

pub returns-in-Err : goal.returns-in-Err
returns-in-Err g c = rw (← c.backdate.ensures.value) (event_failed c.backdate.new.event c.args.self.now _
    c.if-changes_path.ensures c.in-Err.refusal c.in-Err.ensures)

pub change_path-requires : goal.change_path-requires
change_path-requires g c = record {
  changes = sym c.if-changes_path.ensures;
  stays = rw c.backdate.ensures.value (passed_stays (state_in c.args.self.now) c.args.event c.requires.passes
      (rw c.backdate.ensures.value at c.backdate.ensures.early));
}

pub apply-requires : goal.apply-requires
apply-requires g c = record {
  stays = rw c.backdate.ensures.value (passed_stays (state_in c.args.self.now) c.args.event c.requires.passes
      (rw c.backdate.ensures.value at c.backdate.ensures.early));
}
