use Rattle.std.proofs.Common.{arith}
use Rattle.recovery_base.proofs.PlaceLaws.{set_by_bit, clear_by_bit, sets_one, sets_again}
use Rattle.recovery_base.proofs.dedup.set.Goals as goal

pub returns-then-window-word-ne0-clause-answer : goal.returns-then-window-word-ne0-clause-answer
returns-then-window-word-ne0-clause-answer c = set_by_bit _ c.args.place (omega arith)
    (omega arith) c.if-window-word-ne0.true

pub returns-then-window-word-ne0-clause-sets : goal.returns-then-window-word-ne0-clause-sets
returns-then-window-word-ne0-clause-sets c = sets_again _ _
    (set_by_bit _ c.args.place (omega arith) (omega arith) c.if-window-word-ne0.true)

pub returns-clause-answer : goal.returns-clause-answer
returns-clause-answer c = clear_by_bit _ c.args.place (omega arith)
    (omega arith) c.if-window-word-ne0.false

pub returns-clause-sets : goal.returns-clause-sets
returns-clause-sets c = sets_one _ _ (omega arith) (omega arith)
