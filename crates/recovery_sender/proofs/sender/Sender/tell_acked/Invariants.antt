use Rattle.std.proofs.Common.{◌≡◌, ℕ, take}
use Rattle.recovery_losses.specs.Losses.{AreIncreasing, without_all}
use Rattle.recovery_sender.specs.Acking.{IsWithin, acking}
use Rattle.recovery_sender.specs.Losses.{largest_in}
use Rattle.recovery_sender.specs.Senders.{state_in}
use Rattle.recovery_sender.specs.Spaces.{packets_in}
use Rattle.recovery_sender.specs.Steps.{TakesSteps}
use Rattle.recovery_sender.proofs.sender.Sender.tell_acked.Given as goal

abbrev pub invariant-loop-number : goal.invariant-loop-number
invariant-loop-number g l = record {
  goes : TakesSteps (acking l.fn.space l.fn.now l.fn.app_limited (take l.number-index l.fn.numbers)) l.fn.self l.self;
  packets : packets_in (state_in l.self) l.fn.space
      ≡ without_all (packets_in (state_in l.fn.self) l.fn.space) (take l.number-index l.fn.numbers);
  largest : (bound : ℕ) → IsWithin bound (largest_in (state_in l.fn.self) l.fn.space)
      → AreIncreasing 0 l.fn.numbers bound → IsWithin bound (largest_in (state_in l.self) l.fn.space);
}
