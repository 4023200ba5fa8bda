-- Honest endpoints never accuse each other: the ACK frame of a new packet is never rejected for its contents, that is,
-- with `Unsent`, `SkippedAcked`, `BadRange` or `NumberTooLarge` (RFC 9000, 13.1, 19.3.1 and 21.4). It is rejected only
-- if allocation fails, or if the keys of its space were dropped.
use Rattle.std.specs.Prelude.{◌≡◌, ◌⊎◌, Ok}
use Rattle.recovery_events.specs.declared.event.Refusal.TheVariants.{NoMemory, SpaceDiscarded}
use Rattle.recovery_sender.specs.declared.sender.SenderError.TheVariants.{Event}
use Rattle.recovery_pair.specs.declared.steps.AckOutcome.{AckOutcome}
use Rattle.recovery_pair.specs.declared.steps.AckOutcome.TheVariants.{Refused}
use Rattle.recovery_pair.specs.declared.steps.Fate.TheVariants.{New}
use Rattle.recovery_pair.specs.declared.steps.PairAnswer.TheVariants.{Arrived}
use Rattle.recovery_pair.specs.Logs.{PairEvent}

abbrev pub IsSpared : AckOutcome → Type 0
IsSpared (Refused refusal) = (refusal ≡ Event NoMemory) ⊎ (refusal ≡ Event SpaceDiscarded)
IsSpared outcome = Unit {0}

abbrev pub NeverAccuses : PairEvent → Type 0
NeverAccuses (step, Ok (Arrived to space number size (New items acked))) = IsSpared acked
NeverAccuses event = Unit {0}
