use Rattle.std.proofs.Common.{arith}
use Rattle.std.proofs.lemmas.Bool.Decides.{nat_tests}
use Rattle.recovery_queue.proofs.SlotLaws.{rises_room}
use Rattle.recovery_queue.proofs.SlotEntryLaws.{first_alone, first_stays}
use Rattle.recovery_queue.proofs.slots.first_with.Goals as goal

pub returns-then-is_empty-clause-first : goal.returns-then-is_empty-clause-first
returns-then-is_empty-clause-first g c = λ _. first_alone _ _ (grind (arith, nat_tests))

pub returns-else-is_empty-clause-rising : goal.returns-else-is_empty-clause-rising
returns-else-is_empty-clause-rising g c = λ rising. (grind (arith, nat_tests, rises_room _ _ _ rising), rising)

pub returns-else-is_empty-clause-first : goal.returns-else-is_empty-clause-first
returns-else-is_empty-clause-first g c = first_stays _ _ _ (grind (arith, nat_tests))
