use Rattle.std.proofs.Common.{inl, inr, refl, sym, ap, ◌∙◌}
use Rattle.recovery_pair.specs.declared.endpoint.Waiting.{Waiting}
use Rattle.recovery_pair.proofs.WaitLaws.{removed_one}
use Rattle.recovery_pair.proofs.ItemMoves.{none_to_repeat, one_exchanged}
use Rattle.recovery_pair.proofs.endpoint.take_waiting.Goals as goal

pub returns-in-Some-clause-loses : goal.returns-in-Some-clause-loses
returns-in-Some-clause-loses c =
    let place = rw c.deref.ensures.value at c.in-Some.ensures.place in
    removed_one c.args.space c.args.waiting.now.items c.remove.new.self.items c.in-Some.at c.remove.result place.0
    (place.1 c.remove.result) c.remove.ensures.value c.remove.ensures.items

pub returns-in-Some-clause-items : goal.returns-in-Some-clause-items
returns-in-Some-clause-items c =
    let place = rw c.deref.ensures.value at c.in-Some.ensures.place in
    one_exchanged c.args.space c.args.repeated c.args.waiting.now.items c.remove.new.self.items c.in-Some.at
    c.remove.result
    (none_to_repeat c.args.repeated c.items.result.now c.items.ensures c.if-not-is_empty.ensures) place.0 (place.1
    c.remove.result) c.remove.ensures.value c.remove.ensures.items

pub returns-then-not-is_empty-clause-first : goal.returns-then-not-is_empty-clause-first
returns-then-not-is_empty-clause-first c = inr refl

pub returns-in-Some-clause-first : goal.returns-in-Some-clause-first
returns-in-Some-clause-first c =
    inl (none_to_repeat c.args.repeated c.items.result.now c.items.ensures c.if-not-is_empty.ensures)

pub returns-in-None-clause-first : goal.returns-in-None-clause-first
returns-in-None-clause-first c = inr refl

pub returns-in-Some-clause-next : goal.returns-in-Some-clause-next
returns-in-Some-clause-next c = λ none.
    (let next = rw c.deref.ensures.value at c.in-Some.ensures.next in
    next c.remove.result ∙ ap (λ (one : Waiting). one.queue) (sym c.remove.ensures.value) ∙ none)
