-- Forgotten packets: non-ack-eliciting ones may never be acknowledged (RFC 9002, 2 and A.1). A space tracks at most
-- 1001 of them since the last ack-eliciting packet (`most_silent`). If one more is sent, the oldest of them is
-- forgotten, and else none is.
use Rattle.std.specs.Prelude.{◌≡◌, ℕ, Bool, false, not, ◌&&◌, ◌||◌, nat_le, List, [], ◌∷◌, ◌++◌, length, Option, None, Some, Ok, if◌then◌else◌}
use Rattle.recovery_base.specs.declared.below.SpaceId.{SpaceId}
use Rattle.recovery_base.specs.declared.below.SpaceId.TheVariants.{Data}
use Rattle.recovery_base.specs.Spaces.{same_space}
use Rattle.recovery_spaces.specs.Packets.{most_silent}
use Rattle.recovery_events.specs.declared.event.Event.{Event}
use Rattle.recovery_events.specs.declared.event.Event.TheVariants.{Send, PollMtu}
use Rattle.recovery_events.specs.declared.event.Answer.TheVariants.{Sent, Probe}
use Rattle.recovery_history.specs.History.{History, Reply}
use Rattle.recovery_history.specs.Promises.Tracked.{leaves}

abbrev pub oldest : List ℕ → Option ℕ
oldest [] = None
oldest (n ∷ later) = Some n

module _ {Q S M P : Type 0} (space : SpaceId) where
  -- an ack-eliciting packet is sent
  abbrev pub elicits : Event Q S M P × Reply Q → Bool
  elicits (Send there now size eliciting largest queue frames, Ok (Sent number forgotten)) =
      same_space there space && eliciting
  elicits (PollMtu now, Ok (Probe number size)) = same_space Data space
  elicits happened = false

  -- a non-ack-eliciting packet that is sent is appended, unless its number is gone
  abbrev pub with_silent : (ℕ → Bool) → Event Q S M P × Reply Q → List ℕ → List ℕ
  with_silent gone (Send there now size eliciting largest queue frames, Ok (Sent number forgotten)) before =
      if same_space there space && not (eliciting || gone number) then before ++ number ∷ [] else before
  with_silent gone happened before = before

  -- the non-ack-eliciting packets since the last ack-eliciting one that are not gone and did not leave, the oldest
  -- first
  abbrev pub silent_since : (ℕ → Bool) → History Q S M P → List ℕ
  silent_since gone [] = []
  silent_since gone (happened ∷ earlier) =
      if elicits happened then []
      else with_silent gone happened (silent_since (λ n. leaves happened space n || gone n) earlier)

module _ {Q S M P : Type 0} where
  abbrev pub ForgetsOldestNonEliciting : History Q S M P → Event Q S M P → Reply Q → Type 0
  ForgetsOldestNonEliciting history (Send space now size eliciting largest queue frames) (Ok (Sent number forgotten)) =
      -- at the end of a history no number is gone yet
      let silent = silent_since space (λ n. false) history in
      forgotten ≡ (if not eliciting && nat_le most_silent (length silent) then oldest silent else None)
  ForgetsOldestNonEliciting history event reply = Unit {0}
