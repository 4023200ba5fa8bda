-- Tracked packets (RFC 9002, A.1): each from the answer with its number until it is acknowledged, lost or forgotten, or
-- the keys of its space are dropped.
use Rattle.std.specs.Prelude.{ℕ, ◌==◌, Bool, false, not, ◌&&◌, ◌||◌, [], ◌∷◌, Some, Ok}
use Rattle.recovery_base.specs.declared.below.SpaceId.{SpaceId}
use Rattle.recovery_base.specs.declared.below.SpaceId.TheVariants.{Data}
use Rattle.recovery_base.specs.Spaces.{same_space}
use Rattle.recovery_events.specs.declared.event.Event.{Event}
use Rattle.recovery_events.specs.declared.event.Event.TheVariants.{Send, PollMtu, Acked, Lost, DiscardSpace}
use Rattle.recovery_events.specs.declared.event.Answer.TheVariants.{Sent, Probe}
use Rattle.recovery_history.specs.History.{History, Reply}

module _ {Q S M P : Type 0} where
  -- a packet is sent under a number of a space
  abbrev pub goes_out : Event Q S M P × Reply Q → SpaceId → ℕ → Bool
  goes_out (Send there now size eliciting largest queue frames, Ok (Sent number forgotten)) space n =
      same_space there space && number == n
  goes_out (PollMtu now, Ok (Probe number size)) space n = same_space Data space && number == n
  goes_out happened space n = false

  -- it is acknowledged, lost or forgotten, or discarded with its space
  abbrev pub leaves : Event Q S M P × Reply Q → SpaceId → ℕ → Bool
  leaves (Acked there now number app_limited, Ok answer) space n = same_space there space && number == n
  leaves (Lost there number, Ok answer) space n = same_space there space && number == n
  leaves (Send there now size eliciting largest queue frames, Ok (Sent number (Some forgotten))) space n =
      same_space there space && forgotten == n
  leaves (DiscardSpace there, Ok answer) space n = same_space there space
  leaves happened space n = false

  -- the packet of a number is tracked
  abbrev pub is_tracked : SpaceId → ℕ → History Q S M P → Bool
  is_tracked space n [] = false
  is_tracked space n (happened ∷ earlier) =
      goes_out happened space n || (not (leaves happened space n) && is_tracked space n earlier)
