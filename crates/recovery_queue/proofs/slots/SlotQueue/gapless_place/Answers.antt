use Rattle.std.proofs.Common.{◌≡◌, ◌+◌, length, sym, ap, ◌∙◌, arith}
use Rattle.recovery_queue.proofs.SlotLaws.{gapless, divides_at}
use Rattle.recovery_queue.proofs.slots.SlotQueue.gapless_place.Goals as goal

pub returns-clause-number : goal.returns-clause-number
returns-clause-number g c =
    let len : c.len.result ≡ length c.self.inside.slots.items = c.len.ensures ∙ ap length (sym c.self.view_is) in
    rw (← c.self.view_is) (gapless _ _ _ _ c.self.invariant.rising (omega arith) (omega arith) (omega arith))

pub returns-clause-divides : goal.returns-clause-divides
returns-clause-divides g c =
    let len : c.len.result ≡ length c.self.inside.slots.items = c.len.ensures ∙ ap length (sym c.self.view_is) in
    let its = gapless _ _ _ c.args.number c.self.invariant.rising (omega arith) (omega arith) (omega arith) in
    rw (← c.self.view_is) (divides_at _ _ _ its.slot
    (c.self.inside.first, c.self.inside.last + 1, c.self.invariant.rising) its.at its.number_is)
