use Rattle.std.proofs.Common.{◌≡◌, true, sym, ◌∙◌}
use Rattle.recovery_sender.specs.Calls.{after_transmit}
use Rattle.recovery_sender.specs.Senders.{state_in}
use Rattle.recovery_sender.proofs.AloneLaws.{permits_alone}
use Rattle.recovery_sender.proofs.CallLaws.{known_from, overflow_answered, transmit_answered, window_kept}
use Rattle.recovery_sender.proofs.TimerKeptLaws.{transmits_left}
use Rattle.recovery_sender.proofs.StepLaws.{does_behind_with}
use Rattle.recovery_sender.proofs.WindowLaws.{fits_exactly}
use Rattle.recovery_sender.proofs.sender.Sender.transmit.Goals as goal

pub returns-clause-reply : goal.returns-clause-reply
returns-clause-reply g c = (
  c.ack_required-ack.result,
  c.ack_required-ack.ensures,
  transmit_answered g.F.Controller.Controller.words (state_in c.args.self.now) c.args.self.now.variables c.args.now
      c.args.bytes c.args.space c.args.in_flight _ _ _ (sym c.is_checked.ensures ∙ c.in-Some.is)
      (rw c.path.ensures at c.has_room.ensures.0 c.if-not-has_room.false) c.transmit_where_it_may-sent.ensures.value,
)

pub returns-clause-window : goal.returns-clause-window
returns-clause-window g c =
    window_kept g.F.Controller.Controller.words (state_in c.args.self.now) c.args.self.now.variables c.args.now
    c.args.bytes c.args.space c.args.in_flight _ _ _ (sym c.is_checked.ensures ∙ c.in-Some.is)
    c.transmit_where_it_may-sent.ensures.value

pub returns-clause-steps : goal.returns-clause-steps
returns-clause-steps g c =
    rw (known_from _ _ _ (sym c.is_checked.ensures ∙ c.in-Some.is)).1
    (does_behind_with (after_transmit c.args.now c.args.space c.args.in_flight c.transmit_where_it_may-sent.result) _ _
    _ _ c.transmit_where_it_may-sent.ensures.steps c.end_transmit.ensures)

pub returns-clause-alone : goal.returns-clause-alone
returns-clause-alone g c =
    let known = known_from _ _ _ (sym c.is_checked.ensures ∙ c.in-Some.is) in
    permits_alone c.args.now c.args.bytes c.args.space c.in-Some.is_checked c.ack_required-ack.result _ c.args.self.now
    c.end_transmit.new.self known.0 (rw c.path.ensures at c.has_room.ensures.0 c.if-not-has_room.false)
    c.transmit_where_it_may-sent.result c.transmit_where_it_may-sent.ensures.value
    (does_behind_with (after_transmit c.args.now c.args.space c.args.in_flight c.transmit_where_it_may-sent.result) _ _
    _ _ c.transmit_where_it_may-sent.ensures.steps c.end_transmit.ensures)

pub end_transmit-requires : goal.end_transmit-requires
end_transmit-requires g c =
    let known = c.is_timed_unlimited-was_timed.ensures in
    let left = λ (was : c.is_timed_unlimited-was_timed.result ≡ true). transmits_left c.args.self.now _ _ _ _ _
    c.transmit_where_it_may-sent.ensures.steps (known.unlimited was) in
    record {
      timed = λ was. (left was).0 (known.timed was);
      known = λ was. (left was).1 _ c.known_pto-known.ensures;
    }

pub returns-clause-fits : goal.returns-clause-fits
returns-clause-fits g c =
    rw (known_from _ _ _ (sym c.is_checked.ensures ∙ c.in-Some.is)).1
    (fits_exactly c.args.self.now c.args.now c.args.bytes _ _ _ c.transmit_where_it_may-sent.ensures.value)

pub returns-then-not-has_room-clause-reply : goal.returns-then-not-has_room-clause-reply
returns-then-not-has_room-clause-reply g c = (
  c.ack_required-ack.result,
  c.ack_required-ack.ensures,
  overflow_answered g.F.Controller.Controller.words (state_in c.args.self.now) c.args.self.now.variables c.args.now
      c.args.bytes c.args.space c.args.in_flight _ _ (sym c.is_checked.ensures ∙ c.in-Some.is)
      c.has_room.result c.if-not-has_room.true (rw c.path.ensures at c.has_room.ensures),
)
