-- Lost (RFC 9002, 6.1 and A.10): a pass declares lost exactly the packets that are tracked below the largest
-- acknowledged in its space and meet a threshold, by the events before it. The next pass is due when the next of them
-- is lost by its age. If allocation failed for one, the pass is cut, and the next one is due at once.
use Rattle.std.specs.Prelude.{◌≡◌, ℕ, ◌<◌, ◌≤◌, ◌⊎◌, ◌==◌, ◌&&◌, Bool, true, false, [], ◌∷◌, Option, Some, Ok, if◌then◌else◌}
use Rattle.std.specs.Option.{ForSome}
use Rattle.recovery_base.specs.declared.below.SpaceId.{SpaceId}
use Rattle.recovery_base.specs.declared.below.SpaceId.TheVariants.{Data}
use Rattle.recovery_base.specs.Spaces.{same_space}
use Rattle.recovery_events.specs.declared.event.Answer.TheVariants.{Sent, Probe}
use Rattle.recovery_events.specs.declared.event.Event.TheVariants.{Send, PollMtu}
use Rattle.recovery_losses.specs.declared.looks.LossPass.{LossPass}
use Rattle.recovery_losses.specs.Losses.{IsLost, IsDeclaredLost, lost_at}
use Rattle.recovery_history.specs.History.{History}
use Rattle.recovery_history.specs.Promises.Tracked.{is_tracked}
use Rattle.recovery_sender.specs.declared.sender.losses.Losses.{Losses}

module _ {Q S M P : Type 0} where
  -- a property of the packet with a number when it was sent: from its time, and whether it is ack-eliciting
  abbrev pub at_sending : {A : Type 0} → A → (ℕ → Bool → A) → SpaceId → History Q S M P → ℕ → A
  at_sending none say space [] n = none
  at_sending none say space ((Send there now size eliciting largest queue frames, Ok (Sent number forgotten)) ∷ earlier)
      n = if same_space there space && number == n then say now eliciting else at_sending none say space earlier n
  at_sending none say space ((PollMtu now, Ok (Probe number size)) ∷ earlier) n =
      if same_space Data space && number == n then say now true else at_sending none say space earlier n
  at_sending none say space (happened ∷ earlier) n = at_sending none say space earlier n

  -- when it was sent
  abbrev pub sent_at : SpaceId → History Q S M P → ℕ → ℕ
  sent_at = at_sending 0 (λ now eliciting. now)

  -- whether it is ack-eliciting
  abbrev pub elicits_by : SpaceId → History Q S M P → ℕ → Bool
  elicits_by = at_sending false (λ now eliciting. eliciting)

  -- it is tracked below the largest number acknowledged, and one of the two thresholds holds
  abbrev pub IsLostBy : LossPass → History Q S M P → ℕ → Type 0
  IsLostBy look past number = (is_tracked look.space number past ≡ true) × (number < look.largest)
      × IsLost look number (sent_at look.space past number)

  -- it is tracked below the largest number acknowledged, and no threshold holds
  abbrev pub IsWaitingBy : LossPass → History Q S M P → ℕ → Type 0
  IsWaitingBy look past number = (is_tracked look.space number past ≡ true) × (number < look.largest)
      × ¬ IsLost look number (sent_at look.space past number)

  -- these are declared lost, and the next pass is at this time
  pub record LosesTracked (look : LossPass) (losses : Losses) (time : Option ℕ) (past : History Q S M P) : Type 0 where
    -- each of them is lost
    pub told : (number : ℕ) → IsDeclaredLost losses.numbers.items losses.probe number → IsLostBy look past number
    -- and all that are lost, unless the pass is cut
    pub all : (number : ℕ) → IsLostBy look past number → IsDeclaredLost losses.numbers.items losses.probe number
        ⊎ (losses.is_cut ≡ true) × (due : ℕ) × (time ≡ Some due) × (due ≤ look.at)
    -- the next pass is when a packet that waits is lost by its age, or at once if this one is cut (RFC 9002, 6.1.2)
    pub next : ForSome time (λ due. (losses.is_cut ≡ true) × (due ≡ look.at)
        ⊎ (number : ℕ) × IsWaitingBy look past number × (due ≡ lost_at look (sent_at look.space past number)))
    -- and no packet that waits is lost by its age before it
    pub earliest : (number : ℕ) → IsWaitingBy look past number
        → (due : ℕ) × (time ≡ Some due) × (due ≤ lost_at look (sent_at look.space past number))
