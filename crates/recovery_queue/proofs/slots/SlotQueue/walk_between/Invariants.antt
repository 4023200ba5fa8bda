use Rattle.recovery_queue.proofs.SlotWalkLaws.{Walks}
use Rattle.recovery_queue.proofs.slots.SlotQueue.walk_between.Given as goal

abbrev pub invariant-loop-place : goal.invariant-loop-place
invariant-loop-place g l = Walks l.self l.from l.end l.start l.place
