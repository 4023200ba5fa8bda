use Rattle.std.proofs.Common.{ℕ, Option, refl, sym, ap, subst, ◌∙◌}
use Rattle.recovery_losses.specs.Frames.{largest_of}
use Rattle.recovery_pair.specs.Pasts.{Continues, SendsNumber}
use Rattle.recovery_pair.specs.Flights.{counted_if}
use Rattle.recovery_pair.proofs.QuietLaws.{quietly_then}
use Rattle.recovery_pair.proofs.TurnLaws.{quietly_sends, sends_quietly}
use Rattle.recovery_pair.proofs.ItemMoves.{keeps_move, sends_move}
use Rattle.recovery_pair.proofs.endpoint.Endpoint.pack.Goals as goal

pub returns-in-Ok-track-clause-goes : goal.returns-in-Ok-track-clause-goes
returns-in-Ok-track-clause-goes g c =
    let first = c.in-Ok.ensures.copies.0 in
    let second = c.in-Ok.ensures.copies.1 in
    record {
      sender = refl;
      there = refl;
      sized = refl;
      told = cc (first, second);
      acks = refl;
      delays = refl;
      elicits = refl;
      window_is = refl;
      goes = quietly_sends (counted_if c.args.eliciting c.args.size) c.args.eliciting c.args.space c.in-Ok-track.number
          (largest_of c.args.ack.ranges.items) c.args.now c.args.self.now.sender c.take_items.new.self.sender
          c.end_acks.new.self.sender c.in-Ok.ensures.goes (sends_quietly (counted_if c.args.eliciting c.args.size)
          c.args.eliciting c.args.space c.in-Ok-track.number (largest_of c.args.ack.ranges.items) c.args.now
          c.take_items.new.self.sender c.track.new.sender c.end_acks.new.self.sender
          (subst (λ (largest : Option ℕ). Continues (SendsNumber 0 (counted_if c.args.eliciting c.args.size)
          c.args.eliciting c.args.space c.in-Ok-track.number largest c.args.now) c.take_items.new.self.sender
          c.track.new.sender)
          (c.largest_of-largest.ensures ∙ ap largest_of c.deref.ensures.value) c.in-Ok-track.ensures.goes)
          c.end_acks.ensures.goes);
    }

pub returns-in-Err-track-clause-goes : goal.returns-in-Err-track-clause-goes
returns-in-Err-track-clause-goes g c = quietly_then _ _ _
    c.in-Ok.ensures.goes (rw c.keep.ensures.goes c.in-Err-track.ensures.goes)

pub returns-in-Ok-track-clause-timer : goal.returns-in-Ok-track-clause-timer
returns-in-Ok-track-clause-timer g c = λ known has. c.end_acks.ensures.timer known
    (c.in-Ok-track.ensures.timer known (c.in-Ok.ensures.timer known has))

pub returns-in-Err-track-clause-timer : goal.returns-in-Err-track-clause-timer
returns-in-Err-track-clause-timer g c = λ known has. rw c.keep.ensures.goes
    (c.in-Err-track.ensures.timer known (c.in-Ok.ensures.timer known has))

pub returns-in-Ok-track-clause-items : goal.returns-in-Ok-track-clause-items
returns-in-Ok-track-clause-items g c =
    let second = c.in-Ok.ensures.copies.1 in
    rw (← c.is_probe-probe.ensures) (sends_move c.is_probe-probe.result c.args.space c.in-Ok-track.number
    c.in-Ok.taken.queue _ _ _ _ _ _ _ c.end_acks.new.self.waiting.items
    c.in-Ok.ensures.items c.in-Ok-track.ensures.items c.end_acks.ensures.items c.end_acks.ensures.waits cc)

pub returns-in-Err-track-clause-items : goal.returns-in-Err-track-clause-items
returns-in-Err-track-clause-items g c =
    let first = c.in-Ok.ensures.copies.0 in
    keeps_move c.is_probe-probe.result c.args.space c.in-Ok.taken.queue c.from_items.result _ _ _ _ _ _
    c.in-Ok.ensures.items (rw c.keep.ensures.goes c.in-Err-track.ensures.items) c.keep.ensures.items cc

pub returns-in-Ok-track-clause-filled : goal.returns-in-Ok-track-clause-filled
returns-in-Ok-track-clause-filled g c = let second = c.in-Ok.ensures.copies.1 in λ on none own.
    c.in-Ok.ensures.filled (c.is_probe-probe.ensures ∙ on) (sym second ∙ none) own
