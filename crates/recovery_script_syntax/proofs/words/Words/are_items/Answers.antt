use Rattle.std.proofs.Common.{arith}
use Rattle.recovery_script_syntax.proofs.ItemLaws.{item_first, no_item}
use Rattle.recovery_script_syntax.proofs.words.Words.are_items.Goals as goal

pub returns-in_default : goal.returns-in_default
returns-in_default c =
    grind (arith, no_item _ _ c.loop-words-test.true c.is_empty.ensures c.in_default.ensures, c.loop-words.invariant)

pub loop-words-smaller : goal.loop-words-smaller
loop-words-smaller c = omega (arith, (item_first _ _ _ c.in-Some.ensures).1)

pub loop-words-preserved : goal.loop-words-preserved
loop-words-preserved c = grind (arith, (item_first _ _ _ c.in-Some.ensures).0, c.loop-words.invariant)
