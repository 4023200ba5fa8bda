use Rattle.std.proofs.Common.{ℕ, Option, false, refl, sym, ap, subst, ◌∙◌}
use Rattle.recovery_losses.specs.Frames.{largest_of}
use Rattle.recovery_pair.specs.Pasts.{Continues, SendsNumber}
use Rattle.recovery_pair.proofs.TurnLaws.{sends_quietly}
use Rattle.recovery_pair.proofs.ItemMoves.{sends_alone}
use Rattle.recovery_pair.proofs.endpoint.Endpoint.pack_ack.Goals as goal

pub returns-in-Ok-clause-goes : goal.returns-in-Ok-clause-goes
returns-in-Ok-clause-goes g c = record {
  sender = refl;
  there = refl;
  sized = refl;
  told = c.new-in-Ok-2.ensures.items ∙ sym c.new-in-Ok.ensures.items;
  acks = refl;
  delays = refl;
  elicits = refl;
  window_is = refl;
  goes = sends_quietly 0 false c.args.space c.in-Ok.number (largest_of c.args.ack.ranges.items) c.args.now
      c.args.self.now.sender c.track.new.sender c.end_acks.new.self.sender
      (subst (λ (largest : Option ℕ). Continues (SendsNumber 0 0 false c.args.space c.in-Ok.number largest c.args.now)
      c.args.self.now.sender c.track.new.sender)
      (c.largest_of-largest.ensures ∙ ap largest_of c.deref.ensures.value) c.in-Ok.ensures.goes)
      c.end_acks.ensures.goes;
}

pub returns-in-Ok-clause-timer : goal.returns-in-Ok-clause-timer
returns-in-Ok-clause-timer g c = λ known has. c.end_acks.ensures.timer known (c.in-Ok.ensures.timer known has)

pub returns-in-Ok-clause-items : goal.returns-in-Ok-clause-items
returns-in-Ok-clause-items g c = sends_alone c.args.space c.in-Ok.number c.from_items-none.result
    c.new-in-Ok-2.result.items _ _ _ _ _ (c.from_items-none.ensures ∙ c.new.ensures.items) c.new-in-Ok-2.ensures.items
    c.in-Ok.ensures.items
    c.end_acks.ensures.items c.end_acks.ensures.waits
