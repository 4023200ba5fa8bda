use Rattle.std.proofs.Common.{arith, append_assoc, length-append}
use Rattle.recovery_script_syntax.proofs.ItemLaws.{item_first, no_item, on_err}
use Rattle.recovery_script_syntax.proofs.words.Words.items.Goals as goal

pub returns-in_default-clause-found : goal.returns-in_default-clause-found
returns-in_default-clause-found c =
    grind (arith, no_item _ _ c.loop-self-test.true c.is_empty.ensures c.in_default.ensures, c.loop-self.invariant)

pub loop-self-smaller : goal.loop-self-smaller
loop-self-smaller c = omega (arith, (item_first _ _ _ c.in-Some.ensures).1)

pub loop-self-preserved : goal.loop-self-preserved
loop-self-preserved c =
    grind (
      arith,
      (item_first _ _ _ c.in-Some.ensures).0,
      c.loop-self.invariant,
      c.in_ok-push.ensures.items,
      append_assoc,
    )

pub returns-in_err-push-clause-memory : goal.returns-in_err-push-clause-memory
returns-in_err-push-clause-memory c =
    on_err c.from_residual.result (grind (
      arith,
      (item_first _ _ _ c.in-Some.ensures).0,
      c.loop-self.invariant,
      c.are_items.ensures.0 c.if-not-are_items.false,
      length-append,
    ))
