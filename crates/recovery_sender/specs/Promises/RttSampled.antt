-- An RTT sample is the time from sending the packet with the largest number of an ACK frame to receiving the frame, 0
-- if it was received earlier (RFC 9002, 5.1). The frame newly acknowledges that packet, and an ack-eliciting one.
use Rattle.std.specs.Prelude.{◌≡◌, ℕ, ◌-◌, true, List, Option, None, Some}
use Rattle.recovery_base.specs.declared.below.SpaceId.{SpaceId}
use Rattle.recovery_losses.specs.Frames.{largest_of}
use Rattle.recovery_losses.specs.Losses.{IsOneOf}
use Rattle.recovery_history.specs.History.{History}
use Rattle.recovery_sender.specs.Promises.Lost.{elicits_by, sent_at}

module _ {Q S M P : Type 0} (space : SpaceId) (received : ℕ) (ranges : List (ℕ × ℕ)) (numbers : List ℕ) where
  -- by the events before the frame
  pub record IsSampleOf (past : History Q S M P) (rtt : ℕ) : Type 0 where
    pub largest : ℕ
    pub is_largest : largest_of ranges ≡ Some largest
    pub newly : IsOneOf largest numbers
    pub since : rtt ≡ received - sent_at space past largest
    pub eliciting : ℕ
    pub elicits : elicits_by space past eliciting ≡ true
    pub also_newly : IsOneOf eliciting numbers

  abbrev pub SamplesByPast : Option ℕ → History Q S M P → Type 0
  SamplesByPast None past = Unit {0}
  SamplesByPast (Some rtt) past = IsSampleOf past rtt
