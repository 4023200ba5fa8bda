-- RTT samples (RFC 9002, 5.1): an ACK frame gives a sample exactly if its largest number is newly acknowledged, and one
-- of the newly acknowledged packets is ack-eliciting. The sample is the time since the packet of that largest number
-- was sent.
use Rattle.std.specs.Prelude.{◌≡◌, ℕ, ◌-◌, ◌&&◌, nat_eq, Bool, List, Option, None, Some, Ok, if◌then◌else◌}
use Rattle.std.specs.List.{list_any}
use Rattle.std.specs.Set.{is_member}
use Rattle.recovery_base.specs.declared.below.SpaceId.{SpaceId}
use Rattle.recovery_sender.specs.declared.sender.acks.Acknowledged.{Acknowledged}
use Rattle.recovery_pair.specs.declared.steps.AckOutcome.TheVariants.{Taken}
use Rattle.recovery_pair.specs.declared.steps.End.{End}
use Rattle.recovery_pair.specs.declared.steps.Fate.TheVariants.{New}
use Rattle.recovery_pair.specs.declared.steps.PairAnswer.TheVariants.{Arrived}
use Rattle.recovery_pair.specs.declared.steps.PairStep.TheVariants.{Arrive}
use Rattle.recovery_pair.specs.Logs.{IsAt, LoggedPacket, PairEvent, PairLog, is_eliciting, time_sent, wire_of}

-- the sample of a frame, by its largest number and the numbers that it newly acknowledges, by when each packet was sent
-- and whether it is ack-eliciting
abbrev pub sample_of : (ℕ → ℕ) → (ℕ → Bool) → ℕ → List ℕ → Option ℕ → Option ℕ
sample_of sent elicits now numbers None = None
sample_of sent elicits now numbers (Some largest) =
    if is_member nat_eq numbers largest && list_any elicits numbers then Some (now - sent largest) else None

-- the frame is that of the packet which was sent at this position
pub record IsSampled (log : PairLog) (at now : ℕ) (to : End) (space : SpaceId) (acked : Acknowledged) : Type 0 where
  pub packet : LoggedPacket
  pub sent : IsAt (wire_of log) at packet
  pub rtt : acked.rtt ≡ sample_of (λ n. time_sent to space n log) (λ n. is_eliciting to space n log) now
      acked.numbers.items packet.largest

abbrev pub SamplesRoundTrips : PairLog → PairEvent → Type 0
SamplesRoundTrips log (Arrive at now, Ok (Arrived to space number size (New items (Taken acked)))) =
    IsSampled log at now to space acked
SamplesRoundTrips log event = Unit {0}
