-- ACK_FREQUENCY frames do not change the largest ack-eliciting number. The driver's `ack_frequency_in` rests on it.
use Rattle.std.proofs.Common.{Bool, ◌≡◌, Result, Ok, Err, arith}
use Rattle.recovery_base.specs.declared.below.frames.AckFrequency.{AckFrequency}
use Rattle.recovery_base.specs.declared.below.frames.TransportError.{TransportError}
use Rattle.recovery_acks.specs.declared.frequency.AckFrequencyState.{AckFrequencyState}
use Rattle.recovery_acks.specs.Acks.{Acks}
use Rattle.recovery_acks.specs.AckFrequencies.{FrequencyReceived}

pub asked_greatest : (old : AckFrequencyState) (acks : Acks) (frame : AckFrequency)
    (result : Result Bool TransportError) (new : AckFrequencyState) (after : Acks)
    → FrequencyReceived old acks frame result new after
    → after.counts.greatest ≡ acks.counts.greatest
asked_greatest old acks frame (Ok taken) new after received = grind arith
asked_greatest old acks frame (Err error) new after received = grind arith
