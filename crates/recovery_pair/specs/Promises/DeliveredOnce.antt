-- What is acknowledged was delivered, once. Each number that is newly acknowledged to an endpoint was sent by it once.
-- Its peer called the number new once, and the items delivered then are those that were sent under it (RFC 9000, 12.3,
-- 13.1 and 13.2).
use Rattle.std.specs.Prelude.{◌≡◌, ℕ, List, [], ◌∷◌, Ok}
use Rattle.recovery_base.specs.declared.below.SpaceId.{SpaceId}
use Rattle.recovery_losses.specs.Losses.{IsOneOf}
use Rattle.recovery_pair.specs.declared.steps.AckOutcome.TheVariants.{Taken}
use Rattle.recovery_pair.specs.declared.steps.End.{End}
use Rattle.recovery_pair.specs.declared.steps.Fate.TheVariants.{New}
use Rattle.recovery_pair.specs.declared.steps.PairAnswer.TheVariants.{Arrived}
use Rattle.recovery_pair.specs.Logs.{PairEvent, PairLog, deliveries_of, other_end, sends_of}

-- the number of an end: one packet was sent under it, and the other end took one packet with it, with the same items
pub record IsDeliveredOnce (log : PairLog) (from : End) (space : SpaceId) (n : ℕ) : Type 0 where
  pub items : List ℕ
  pub sent : sends_of from space n log ≡ items ∷ []
  pub delivered : deliveries_of (other_end from) space n log ≡ items ∷ []

abbrev pub AcksDelivered : PairLog → PairEvent → Type 0
AcksDelivered log (step, Ok (Arrived to space number size (New items (Taken acked)))) =
    (n : ℕ) → IsOneOf n acked.numbers.items → IsDeliveredOnce log to space n
AcksDelivered log event = Unit {0}
