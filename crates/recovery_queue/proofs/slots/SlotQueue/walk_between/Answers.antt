use Rattle.std.proofs.Common.{◌+◌, arith}
use Rattle.recovery_queue.proofs.SlotLaws.{slot_read}
use Rattle.recovery_queue.proofs.SlotWalkLaws.{walk_begun, walk_on, walk_to, walk_found, walk_looks, walk_out, all_looks}
use Rattle.recovery_queue.proofs.slots.SlotQueue.walk_between.Goals as goal

pub loop-place-init : goal.loop-place-init
loop-place-init g c =
    walk_begun (c.self.inside.first, c.self.inside.last + 1, rw (← c.self.view_is) c.self.invariant.rising)
    c.requires.divides

pub returns-then-slot-end-clause-none : goal.returns-then-slot-end-clause-none
returns-then-slot-end-clause-none g c =
    walk_to c.index-slot.result.now c.loop-place.invariant
    (slot_read c.self.view_is (rw c.len-place-end.ensures at c.loop-place-test.true) c.index-slot.ensures)
    c.if-slot-end.true

pub returns-then-slot-end-clause-looks : goal.returns-then-slot-end-clause-looks
returns-then-slot-end-clause-looks g c =
    (walk_looks c.index-slot.result.now c.loop-place.invariant
    (slot_read c.self.view_is (rw c.len-place-end.ensures at c.loop-place-test.true) c.index-slot.ensures)
    (rw c.len-place-end.ensures at c.loop-place-test.true) c.requires.few).0

pub returns-in-Some-clause-first : goal.returns-in-Some-clause-first
returns-in-Some-clause-first g c = (
  c.if-slot-end.false,
  walk_found c.index-slot.result.now c.loop-place.invariant
      (slot_read c.self.view_is (rw c.len-place-end.ensures at c.loop-place-test.true) c.index-slot.ensures)
      c.in-Some.is,
)

pub returns-in-Some-clause-lowest : goal.returns-in-Some-clause-lowest
returns-in-Some-clause-lowest g c =
    walk_to c.index-slot.result.now c.loop-place.invariant
    (slot_read c.self.view_is (rw c.len-place-end.ensures at c.loop-place-test.true) c.index-slot.ensures)
    (omega arith)

pub returns-in-Some-clause-looks : goal.returns-in-Some-clause-looks
returns-in-Some-clause-looks g c =
    (walk_looks c.index-slot.result.now c.loop-place.invariant
    (slot_read c.self.view_is (rw c.len-place-end.ensures at c.loop-place-test.true) c.index-slot.ensures)
    (rw c.len-place-end.ensures at c.loop-place-test.true) c.requires.few).1

pub loop-place-preserved : goal.loop-place-preserved
loop-place-preserved g c =
    walk_on c.index-slot.result.now c.loop-place.invariant
    (slot_read c.self.view_is (rw c.len-place-end.ensures at c.loop-place-test.true) c.index-slot.ensures)
    c.in_default.is c.if-slot-end.false

pub returns-clause-none : goal.returns-clause-none
returns-clause-none g c = walk_out c.loop-place.invariant (rw c.len-place-end.ensures at c.loop-place-test.false)

pub returns-clause-looks : goal.returns-clause-looks
returns-clause-looks g c =
    all_looks c.loop-place.invariant (rw c.len-place-end.ensures at c.loop-place-test.false)
    c.requires.few (omega (arith, c.saturating_sub.ensures, c.len.ensures))
