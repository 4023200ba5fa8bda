-- An endpoint sends an ACK frame with every packet of a space in which it received one as new (RFC 9000, 13.2.1). The
-- largest number of the frame is the largest that it received there (13.2.3). So the ACK delay is the time since the
-- packet of that number arrived (13.2.5). A packet without a frame is sent only before the first such arrival.
use Rattle.std.specs.Prelude.{◌≡◌, option_map, Ok}
use Rattle.recovery_pair.specs.declared.steps.PairAnswer.TheVariants.{Sent}
use Rattle.recovery_pair.specs.declared.steps.PairStep.TheVariants.{Send}
use Rattle.recovery_pair.specs.Logs.{PairEvent, PairLog}
use Rattle.recovery_pair.specs.Promises.Delays.{largest_new}

abbrev pub AcksLargest : PairLog → PairEvent → Type 0
AcksLargest log (Send end space now size, Ok (Sent number items eliciting window ack)) =
    ack.largest ≡ option_map (λ received. received.0) (largest_new end space log)
AcksLargest log event = Unit {0}
