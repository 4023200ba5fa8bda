use Rattle.std.proofs.Common.{arith, ◌∙◌}
use Rattle.recovery_queue.proofs.SlotLaws.{looked, closed, few_looks}
use Rattle.recovery_queue.proofs.slots.halve.Goals as goal

pub look-slot-requires-clause-few : goal.look-slot-requires-clause-few
look-slot-requires-clause-few g c = few_looks c.loop-low.invariant.seeks (omega arith)

pub loop-low-preserved-then-slot-number : goal.loop-low-preserved-then-slot-number
loop-low-preserved-then-slot-number g c = record {
  seeks = (looked c.loop-low.invariant.seeks c.loop-low-test.true
      (rw c.loop-low.invariant.slots at c.look-slot.ensures.slot) c.look-slot.ensures.counted).0 c.if-slot-number.true;
  slots = c.look-slot.ensures.slots ∙ c.loop-low.invariant.slots;
}

pub loop-low-preserved : goal.loop-low-preserved
loop-low-preserved g c = record {
  seeks = (looked c.loop-low.invariant.seeks c.loop-low-test.true
      (rw c.loop-low.invariant.slots at c.look-slot.ensures.slot) c.look-slot.ensures.counted).1
      c.if-slot-number-2.true;
  slots = c.look-slot.ensures.slots ∙ c.loop-low.invariant.slots;
}

pub returns-then-is_some-clause-held : goal.returns-then-is_some-clause-held
returns-then-is_some-clause-held g c = grind (
  arith,
  looked c.loop-low.invariant.seeks c.loop-low-test.true
      (rw c.loop-low.invariant.slots at c.look-slot.ensures.slot) c.look-slot.ensures.counted,
)

pub returns-then-is_some-clause-divides : goal.returns-then-is_some-clause-divides
returns-then-is_some-clause-divides g c = grind (
  arith,
  looked c.loop-low.invariant.seeks c.loop-low-test.true
      (rw c.loop-low.invariant.slots at c.look-slot.ensures.slot) c.look-slot.ensures.counted,
)

pub returns-else-is_some-clause-held : goal.returns-else-is_some-clause-held
returns-else-is_some-clause-held g c = grind (
  arith,
  looked c.loop-low.invariant.seeks c.loop-low-test.true
      (rw c.loop-low.invariant.slots at c.look-slot.ensures.slot) c.look-slot.ensures.counted,
)

pub returns-else-is_some-clause-divides : goal.returns-else-is_some-clause-divides
returns-else-is_some-clause-divides g c = grind (
  arith,
  looked c.loop-low.invariant.seeks c.loop-low-test.true
      (rw c.loop-low.invariant.slots at c.look-slot.ensures.slot) c.look-slot.ensures.counted,
)

pub returns-clause-held : goal.returns-clause-held
returns-clause-held g c = (closed c.loop-low.invariant.seeks.encloses c.loop-low-test.false).1
