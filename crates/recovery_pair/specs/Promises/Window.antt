-- The window (RFC 9002, 7): a packet that is reported with a window fits into it with all that is in flight. Which
-- packets have one is in `SendsAsPermitted`: those that count in flight, unless a probe is due (7.5).
use Rattle.std.specs.Prelude.{◌+◌, ◌≤◌, Ok, Some}
use Rattle.recovery_pair.specs.declared.steps.PairAnswer.TheVariants.{Sent}
use Rattle.recovery_pair.specs.declared.steps.PairStep.TheVariants.{Send}
use Rattle.recovery_pair.specs.Flights.{flight}
use Rattle.recovery_pair.specs.Logs.{PairEvent, PairLog}

abbrev pub SendsWithinWindow : PairLog → PairEvent → Type 0
SendsWithinWindow log (Send end space now size, Ok (Sent number items eliciting (Some window) delay)) =
    flight end log + size ≤ window
SendsWithinWindow log event = Unit {0}
