-- The ACK frame that an end sends (RFC 9000, 13.2.3 and 19.3.1).
use Rattle.std.specs.Prelude.{◌≡◌, ℕ, ◌⊎◌, true, List, []}
use Rattle.recovery_base.specs.declared.below.SpaceId.{SpaceId}
use Rattle.recovery_acks.specs.Acks.{IsPending, delay_at}
use Rattle.recovery_events.specs.declared.event.Refusal.TheVariants.{NoMemory, SpaceDiscarded}
use Rattle.recovery_losses.specs.Frames.{are_ranges, IsInAckRanges}
use Rattle.recovery_spaces.specs.Discarded.{is_discarded}
use Rattle.recovery_spaces.specs.Spaces.{acks_of, space_of}
use Rattle.recovery_sender.specs.Senders.{state_in}
use Rattle.recovery_sender.specs.declared.sender.Sender.{Sender}
use Rattle.recovery_sender.specs.declared.sender.SenderError.{SenderError}
use Rattle.recovery_sender.specs.declared.sender.SenderError.TheVariants.{Event}

-- there is no frame, or its ranges are valid
abbrev pub IsSoundFrame : List (ℕ × ℕ) → Type 0
IsSoundFrame ranges = (ranges ≡ []) ⊎ (are_ranges ranges ≡ true)

-- memory ran out, or the space is discarded
abbrev pub FailsFrame : {F Q R C K S M P : Type 0} {f : _} {c : _} {q : _} {m : _} {r : _} → SpaceId
    → Sender F Q R C K S M P f c q m r → SenderError → Type 0
FailsFrame space sender refusal = (refusal ≡ Event NoMemory)
    ⊎ ((is_discarded space (state_in sender).discarded ≡ true) × (refusal ≡ Event SpaceDiscarded))

-- it has exactly the numbers that are to be acknowledged in the space; and its delay is since the largest was received
pub record IsFrameFor {F Q R C K S M P : Type 0} {f : _} {c : _} {q : _} {m : _} {r : _} (space : SpaceId)
    (now : ℕ) (sender : Sender F Q R C K S M P f c q m r) (ranges : List (ℕ × ℕ)) (delay : ℕ) : Type 0 where
  pub sound : IsSoundFrame ranges
  pub each : (n : ℕ) → IsInAckRanges n ranges → IsPending (acks_of (space_of space (state_in sender).spaces)) n
  pub whole : (n : ℕ) → IsPending (acks_of (space_of space (state_in sender).spaces)) n → IsInAckRanges n ranges
  pub waited : delay ≡ delay_at now (acks_of (space_of space (state_in sender).spaces)).counts.largest
