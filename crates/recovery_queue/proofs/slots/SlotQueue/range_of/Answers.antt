use Rattle.std.proofs.Common.{arith, ◌≡◌, length, sym, ap, ◌∙◌}
use Rattle.recovery_queue.proofs.SlotLaws.{enclosed, follow_to}
use Rattle.recovery_queue.proofs.slots.SlotQueue.range_of.Goals as goal

pub returns-then-number-self-clause-encloses : goal.returns-then-number-self-clause-encloses
returns-then-number-self-clause-encloses g c =
    rw (← c.self.view_is) (enclosed _ _ _ _ _ _ c.self.invariant.rising (omega arith) (λ some. omega arith)
    (λ _. omega arith))

pub returns-then-number-self-2-clause-encloses : goal.returns-then-number-self-2-clause-encloses
returns-then-number-self-2-clause-encloses g c =
    rw (c.len-len.ensures, ← c.self.view_is) (enclosed _ _ _ _ _ _ c.self.invariant.rising (omega arith)
    (λ _. omega arith) (λ more. omega arith))

pub returns-clause-encloses : goal.returns-clause-encloses
returns-clause-encloses g c =
    let len : c.len-len.result ≡ length c.self.inside.slots.items = c.len-len.ensures
    ∙ ap length (sym c.self.view_is) in
    rw (← c.self.view_is) (enclosed _ _ _ _ _ _ c.self.invariant.rising (omega arith) (λ some. omega arith)
    (λ more. omega arith))

pub returns-clause-one : goal.returns-clause-one
returns-clause-one g c = λ none_out.
    let len : c.len-len.result ≡ length c.self.inside.slots.items = c.len-len.ensures
    ∙ ap length (sym c.self.view_is) in
    let follow = rw (← c.self.view_is) at none_out in
    grind (
      arith,
      len,
      follow_to c.self.inside.slots.items follow.0 c.self.inside.first c.self.inside.last follow.1
          c.self.invariant.first_is c.self.invariant.last_is,
      c.saturating_add.ensures,
      c.saturating_sub-low.ensures,
      c.saturating_add-2.ensures,
      c.min-high.ensures,
    )
