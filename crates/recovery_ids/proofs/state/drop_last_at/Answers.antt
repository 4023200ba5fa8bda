use Rattle.std.proofs.Common.{refl, sym, ◌∙◌, ◌-◌, arith}
use Rattle.recovery_ids.proofs.DeadlineLaws.{last_at}
use Rattle.recovery_ids.proofs.state.drop_last_at.Goals as goal

pub returns-then-eq-clause-items : goal.returns-then-eq-clause-items
returns-then-eq-clause-items c = let old = c.args.deadlines.now in
    c.pop_back-replaced.ensures.rest ∙ sym (rw (sym c.eq.ensures ∙ c.if-eq.true) at (last_at c.args.timestamp old.items
    (old.len - 1) c.in-Some.last.now
    (omega (arith, c.in-Some.ensures.variant.0 refl)) c.in-Some.ensures.lookup))

pub returns-else-eq-clause-items : goal.returns-else-eq-clause-items
returns-else-eq-clause-items c = let old = c.args.deadlines.now in
    sym (rw (sym c.eq.ensures ∙ c.if-eq.false) at (last_at c.args.timestamp old.items (old.len - 1) c.in-Some.last.now
    (omega (arith, c.in-Some.ensures.variant.0 refl)) c.in-Some.ensures.lookup))
