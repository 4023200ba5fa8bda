-- A packet that is new has an ACK frame exactly if the packet at this position was sent with one. So no endpoint
-- ignores an ACK frame (RFC 9000, 13.2 and 19.3).
use Rattle.std.specs.Prelude.{◌≡◌, ℕ, true, Option, None, is_some, Ok}
use Rattle.recovery_pair.specs.declared.steps.AckOutcome.{AckOutcome}
use Rattle.recovery_pair.specs.declared.steps.AckOutcome.TheVariants.{NoFrame}
use Rattle.recovery_pair.specs.declared.steps.Fate.TheVariants.{New}
use Rattle.recovery_pair.specs.declared.steps.PairAnswer.TheVariants.{Arrived}
use Rattle.recovery_pair.specs.declared.steps.PairStep.TheVariants.{Arrive}
use Rattle.recovery_pair.specs.Logs.{IsAt, LoggedPacket, PairEvent, PairLog, wire_of}

-- there is a frame exactly if it has a largest number
abbrev pub HasFrame : Option ℕ → AckOutcome → Type 0
HasFrame largest NoFrame = largest ≡ None
HasFrame largest outcome = is_some largest ≡ true

pub record IsFramed (log : PairLog) (at : ℕ) (acked : AckOutcome) : Type 0 where
  pub packet : LoggedPacket
  pub sent : IsAt (wire_of log) at packet
  pub framed : HasFrame packet.largest acked

abbrev pub ArrivesFramed : PairLog → PairEvent → Type 0
ArrivesFramed log (Arrive at now, Ok (Arrived to space number size (New items acked))) = IsFramed log at acked
ArrivesFramed log event = Unit {0}
