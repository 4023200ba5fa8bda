-- One outcome (RFC 9002, A.1, A.7, A.10 and 6.4): a number is assigned at most once. Each assigned one is exactly one
-- of these: tracked, acknowledged, lost, forgotten, discarded with its space.
use Rattle.std.specs.Prelude.{◌≡◌, ℕ, ◌+◌, ◌≤◌, ◌==◌, Bool, false, ◌&&◌, [], ◌∷◌, Some, Ok, if◌then◌else◌}
use Rattle.recovery_base.specs.declared.below.SpaceId.{SpaceId}
use Rattle.recovery_base.specs.Spaces.{same_space}
use Rattle.recovery_events.specs.declared.event.Event.{Event}
use Rattle.recovery_events.specs.declared.event.Event.TheVariants.{Send, Acked, Lost, DiscardSpace}
use Rattle.recovery_events.specs.declared.event.Answer.TheVariants.{Sent}
use Rattle.recovery_history.specs.History.{History, Reply}
use Rattle.recovery_history.specs.Promises.Tracked.{goes_out, is_tracked}

abbrev pub more_if : Bool → ℕ → ℕ
more_if happens n = if happens then n + 1 else n

module _ {Q S M P : Type 0} where
  -- how often something happened, which may depend on what was before
  abbrev pub times : (Event Q S M P × Reply Q → History Q S M P → Bool) → History Q S M P → ℕ
  times happens [] = 0
  times happens (happened ∷ earlier) = more_if (happens happened earlier) (times happens earlier)

  module _ (space : SpaceId) (n : ℕ) where
    abbrev pub is_given : Event Q S M P × Reply Q → History Q S M P → Bool
    is_given happened earlier = goes_out happened space n

    abbrev pub is_acked : Event Q S M P × Reply Q → History Q S M P → Bool
    is_acked (Acked there now number app_limited, Ok answer) earlier = same_space there space && number == n
    is_acked happened earlier = false

    abbrev pub is_lost : Event Q S M P × Reply Q → History Q S M P → Bool
    is_lost (Lost there number, Ok answer) earlier = same_space there space && number == n
    is_lost happened earlier = false

    abbrev pub is_forgotten : Event Q S M P × Reply Q → History Q S M P → Bool
    is_forgotten (Send there now size eliciting largest queue frames, Ok (Sent number (Some forgotten))) earlier =
        same_space there space && forgotten == n
    is_forgotten happened earlier = false

    abbrev pub goes_with_space : Event Q S M P × Reply Q → History Q S M P → Bool
    goes_with_space (DiscardSpace there, Ok answer) earlier = same_space there space && is_tracked space n earlier
    goes_with_space happened earlier = false

    -- how many outcomes the number has
    abbrev pub fates : History Q S M P → ℕ
    fates history = more_if (is_tracked space n history)
        (times is_acked history + times is_lost history + times is_forgotten history + times goes_with_space history)

  abbrev pub HaveOneOutcome : History Q S M P → Type 0
  HaveOneOutcome history = (space : SpaceId) (n : ℕ) →
      (times (is_given space n) history ≤ 1) × (times (is_given space n) history ≡ fates space n history)
