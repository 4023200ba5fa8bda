-- The pending ACKs (RFC 9000, 13.2.3 and 13.2.4): new numbers, except those up to the largest number in the ACK of a
-- packet acknowledged since they were received, and those that fell below the 64 highest ranges.
use Rattle.std.specs.Prelude.{◌≡◌, ℕ, ◌≤◌, ◌⊎◌, ◌↔◌, ◌==◌, ◌&&◌, true, false, [], ◌∷◌, IsSomeAnd, Option, None, Ok, if◌then◌else◌}
use Rattle.recovery_acks.specs.Acks.{most_ranges}
use Rattle.recovery_acks.specs.Runs.{LiesBelow}
use Rattle.recovery_base.specs.declared.below.SpaceId.{SpaceId}
use Rattle.recovery_base.specs.declared.below.SpaceId.TheVariants.{Data}
use Rattle.recovery_base.specs.Numbers.{InsertNumber}
use Rattle.recovery_base.specs.Spaces.{same_space}
use Rattle.recovery_spaces.specs.Acks.{ToAcknowledge}
use Rattle.recovery_events.specs.declared.event.Event.TheVariants.{Received, Send, Acked, PollMtu}
use Rattle.recovery_events.specs.declared.event.Answer.TheVariants.{New, Sent, Probe}
use Rattle.recovery_history.specs.RepliesAfter.{logs_of}
use Rattle.recovery_history.specs.History.{Beginning, History}

module _ {Q S M P : Type 0} (space : SpaceId) where
  -- a number was new in the space
  abbrev pub WasReceived : ℕ → History Q S M P → Type 0
  WasReceived n [] = ⊥
  WasReceived n ((Received there now m eliciting, Ok (New started)) ∷ earlier) =
      ((same_space there space && m == n) ≡ true) ⊎ WasReceived n earlier
  WasReceived n (happened ∷ earlier) = WasReceived n earlier

  -- the largest number in the ACK that the packet of a number carries; an MTU probe carries none
  abbrev pub largest_in : ℕ → History Q S M P → Option ℕ
  largest_in n [] = None
  largest_in n ((Send there now size eliciting largest queue frames, Ok (Sent number forgotten)) ∷ earlier) =
      if same_space there space && number == n then largest else largest_in n earlier
  largest_in n ((PollMtu now, Ok (Probe number size)) ∷ earlier) =
      if same_space Data space && number == n then None else largest_in n earlier
  largest_in n (happened ∷ earlier) = largest_in n earlier

  -- since a number was received, a packet was acknowledged whose ACK had it or a larger one, or it fell below the
  -- ranges
  abbrev pub WasDropped : ℕ → History Q S M P → Type 0
  WasDropped n [] = ⊥
  WasDropped n ((Acked there now m app_limited, Ok answer) ∷ earlier) =
      ((same_space there space ≡ true) × IsSomeAnd (largest_in m earlier) (λ l. n ≤ l)) ⊎ WasDropped n earlier
  WasDropped n ((Received there now m eliciting, Ok (New started)) ∷ earlier) =
      ((same_space there space ≡ true)
      × LiesBelow most_ranges (InsertNumber m (λ k. WasReceived k earlier × ¬ WasDropped k earlier)) n)
      ⊎ (((same_space there space && m == n) ≡ false) × WasDropped n earlier)
  WasDropped n (happened ∷ earlier) = WasDropped n earlier

-- stated of the logs by `Table.antt`, which determine the state
abbrev pub TracksPendingAcks : {F K Q S M P : Type 0} → Beginning F K Q S M P → History Q S M P → Type 0
TracksPendingAcks beginning history = (space : SpaceId) (n : ℕ)
    → ToAcknowledge beginning.queue.words ((logs_of beginning history).spaces space) n
    ↔ (WasReceived space n history × ¬ WasDropped space n history)
