-- A frame newly acknowledges its largest number if the packet of that number is in flight (RFC 9002, A.7). So it gives
-- an RTT sample (`SamplesRoundTrips`).
use Rattle.std.specs.Prelude.{◌≡◌, ℕ, ◌<◌, ◌==◌, ◌&&◌, not, true, Some, Ok}
use Rattle.recovery_base.specs.declared.below.SpaceId.{SpaceId}
use Rattle.recovery_base.specs.Spaces.{same_space}
use Rattle.recovery_losses.specs.Losses.{IsOneOf}
use Rattle.recovery_sender.specs.declared.sender.acks.Acknowledged.{Acknowledged}
use Rattle.recovery_pair.specs.declared.steps.AckOutcome.TheVariants.{Taken}
use Rattle.recovery_pair.specs.declared.steps.End.{End}
use Rattle.recovery_pair.specs.declared.steps.Fate.TheVariants.{New}
use Rattle.recovery_pair.specs.declared.steps.PairAnswer.TheVariants.{Arrived}
use Rattle.recovery_pair.specs.declared.steps.PairStep.TheVariants.{Arrive}
use Rattle.recovery_pair.specs.Flights.{Numbers, flight_of}
use Rattle.recovery_pair.specs.Logs.{IsAt, LoggedPacket, PairEvent, PairLog, wire_of}

-- all numbers but one of a space
abbrev pub all_but : SpaceId → ℕ → Numbers
all_but space n there m = not (same_space there space && m == n)

-- the bytes in flight of the packet of one number
abbrev pub flight_of_one : End → SpaceId → ℕ → PairLog → ℕ
flight_of_one end space n log = flight_of end (λ window. true) (all_but space n) log

pub record AcksLargestInFlight (log : PairLog) (at : ℕ) (to : End) (space : SpaceId) (acked : Acknowledged) : Type 0
  where
    pub packet : LoggedPacket
    pub sent : IsAt (wire_of log) at packet
    pub newly : (l : ℕ) → packet.largest ≡ Some l → 0 < flight_of_one to space l log → IsOneOf l acked.numbers.items

abbrev pub AcksInFlight : PairLog → PairEvent → Type 0
AcksInFlight log (Arrive at now, Ok (Arrived to space number size (New items (Taken acked)))) =
    AcksLargestInFlight log at to space acked
AcksInFlight log event = Unit {0}
