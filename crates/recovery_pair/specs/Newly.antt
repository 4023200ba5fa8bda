-- What an ACK frame newly acknowledges, by a past of the sender.
use Rattle.std.specs.Prelude.{ℕ, ◌<◌, List}
use Rattle.recovery_base.specs.declared.below.SpaceId.{SpaceId}
use Rattle.recovery_losses.specs.Frames.{IsInAckRanges}
use Rattle.recovery_losses.specs.Losses.{IsOneOf}
use Rattle.recovery_sender.specs.Promises.Pasts.{ForEveryPast}
use Rattle.recovery_sender.specs.declared.sender.Sender.{Sender}
use Rattle.recovery_history.specs.History.{History}
use Rattle.recovery_pair.specs.declared.steps.AckOutcome.{AckOutcome}
use Rattle.recovery_pair.specs.declared.steps.AckOutcome.TheVariants.{Taken}
use Rattle.recovery_pair.specs.Pasts.{flight_in}
use Rattle.recovery_pair.specs.Promises.Newly.{all_but}

-- each number of the frame whose packet is in flight
abbrev pub AcksFlight : {Q S M P : Type 0} → SpaceId → List (ℕ × ℕ) → AckOutcome → History Q S M P → Type 0
AcksFlight space ranges (Taken acked) past = (n : ℕ) → IsInAckRanges n ranges → 0 < flight_in (all_but space n) past
    → IsOneOf n acked.numbers.items
AcksFlight space ranges outcome past = Unit {0}

-- by each past
abbrev pub AcksFlightBy : {F Q R C K S M P : Type 0} {f : _} {c : _} {q : _} {m : _} {r : _} → SpaceId
    → List (ℕ × ℕ) → Sender F Q R C K S M P f c q m r → AckOutcome → Type 0
AcksFlightBy space ranges sender outcome = ForEveryPast sender (λ past. AcksFlight space ranges outcome past)
