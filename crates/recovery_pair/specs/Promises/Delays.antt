-- The ACK delay that an endpoint reports is the time since it received the largest number of the space, as new (RFC
-- 9000, 13.2.5). Before the first it is zero.
use Rattle.std.specs.Prelude.{◌≡◌, ℕ, ◌&&◌, [], ◌∷◌, Option, None, Ok, if◌then◌else◌}
use Rattle.recovery_acks.specs.Acks.{delay_at, largest_with}
use Rattle.recovery_base.specs.declared.below.SpaceId.{SpaceId}
use Rattle.recovery_base.specs.Spaces.{same_space}
use Rattle.recovery_pair.specs.declared.steps.End.{End}
use Rattle.recovery_pair.specs.declared.steps.Fate.TheVariants.{New}
use Rattle.recovery_pair.specs.declared.steps.PairAnswer.TheVariants.{Arrived, Sent}
use Rattle.recovery_pair.specs.declared.steps.PairStep.TheVariants.{Arrive, Send}
use Rattle.recovery_pair.specs.Logs.{PairEvent, PairLog, same_end}

-- the largest number of a space that was new to an endpoint, and when
abbrev pub largest_new : End → SpaceId → PairLog → Option (ℕ × ℕ)
largest_new end space [] = None
largest_new end space ((Arrive at now, Ok (Arrived to there number size (New items acked))) ∷ earlier) =
    if same_end to end && same_space there space then largest_with (largest_new end space earlier) number now
    else largest_new end space earlier
largest_new end space (event ∷ earlier) = largest_new end space earlier

abbrev pub ReportsDelay : PairLog → PairEvent → Type 0
ReportsDelay log (Send end space now size, Ok (Sent number items eliciting window ack)) =
    ack.delay ≡ delay_at now (largest_new end space log)
ReportsDelay log event = Unit {0}
