use Rattle.std.proofs.Common.{sym, ◌∙◌, rules}
use Rattle.recovery_ids.specs.Window.{ids_in}
use Rattle.recovery_ids.proofs.IterLaws.{items_where_held, items_where_none}
use Rattle.recovery_ids.proofs.iter.CidIterIterator.next.Goals as goal

pub returns-in-Some-clause-steps : goal.returns-in-Some-clause-steps
returns-in-Some-clause-steps c =
    let at = c.loop-self.self-inside in
    let first = items_where_held (ids_in at.window.now) at.step c.in-Some.entry c.loop-self-test.true (search rules) in
    sym c.loop-self.invariant.same ∙ first

pub returns-in-Some-clause-goes : goal.returns-in-Some-clause-goes
returns-in-Some-clause-goes c =
    rw (returns-in-Some-clause-steps c) (search rules)

pub loop-self-preserved : goal.loop-self-preserved
loop-self-preserved c =
    let at = c.loop-self.self-inside in
    let passed = items_where_none (ids_in at.window.now) at.step c.loop-self-test.true (search rules) in
    record { small = c.loop-self.invariant.small; same = sym passed ∙ c.loop-self.invariant.same }
