-- The peer's IDs (RFC 9000, 5.1.1, 5.1.2 and 19.15). A frame is accepted if its number is one of the eight from the
-- active one or from its retire-prior-to on, and it repeats what was issued under it. Once it retires the active ID,
-- the smallest one left is active, and so it is after a move to the next ID.
use Rattle.std.specs.Prelude.{◌≡◌, ℕ, ◌+◌, max, min, ◌==◌, nat_lt, nat_le, ◌&&◌, not, Bool, true, List, ◌∷◌, Option, None, Some, Ok, Err, bytes_eq, if◌then◌else◌}
use Rattle.recovery_base.specs.declared.below.ids.NewConnectionId.{NewConnectionId}
use Rattle.recovery_base.specs.Units.{number_limit}
use Rattle.recovery_ids.specs.RemoteIds.{HeldId, active_connection_id_limit}
use Rattle.recovery_events.specs.declared.event.Event.{Event}
use Rattle.recovery_events.specs.declared.event.Event.TheVariants.{NewId, NextId, InitialId}
use Rattle.recovery_events.specs.declared.event.Answer.TheVariants.{Retire, Done}
use Rattle.recovery_events.specs.declared.event.Refusal.TheVariants.{NumberTooLarge, BadRetirePriorTo, Retired, ExceedsLimit, Conflict, NotInitialId}
use Rattle.recovery_history.specs.History.{History, Reply}
use Rattle.recovery_history.specs.Promises.GivenIds.{id_under, least_from, active_id}

-- a frame repeats what was issued under its number, if anything: the ID, and its token if it has one
abbrev pub repeats : NewConnectionId → Option HeldId → Bool
repeats frame None = true
repeats frame (Some (id, None)) = bytes_eq frame.id id
repeats frame (Some (id, Some token)) = bytes_eq frame.id id && bytes_eq frame.reset_token token

-- the reply to a move to another number with its ID: the numbers up to it, at most eight, and its token
abbrev pub move_reply : {Q : Type 0} → ℕ → ℕ → Option HeldId → Reply Q
move_reply start next (Some (id, Some token)) =
    Ok (Retire (Some (record { start = start; end = min next (start + active_connection_id_limit) }, token)))
move_reply start next other = Ok (Retire None)

module _ {Q S M P : Type 0} (initial : List ℕ) where
  -- the move to the smallest number not below this one; if there is none, the active ID stays
  abbrev pub moved : ℕ → Option ℕ → History Q S M P → Reply Q
  moved active None history = Ok (Retire None)
  moved active (Some next) history = move_reply active next (id_under initial next history)

  -- a frame fails with the first of these causes that holds, and else is accepted
  abbrev pub frame_reply : NewConnectionId → ℕ → History Q S M P → Reply Q
  frame_reply frame active history =
      if nat_le number_limit frame.sequence then Err NumberTooLarge
      else if nat_lt frame.sequence frame.retire_prior_to then Err BadRetirePriorTo
      else if nat_lt frame.sequence active then Err Retired
      else if nat_le (max active frame.retire_prior_to + active_connection_id_limit) frame.sequence
      then Err ExceedsLimit
      else if not (repeats frame (id_under initial frame.sequence history)) then Err Conflict
      else if nat_le frame.retire_prior_to active then Ok (Retire None)
      else (let after = (NewId frame, Ok (Retire None)) ∷ history in
      moved active (least_from frame.retire_prior_to after) after)

  abbrev pub AcceptsIds : History Q S M P → Event Q S M P → Reply Q → Type 0
  AcceptsIds history (NewId frame) reply = reply ≡ frame_reply frame (active_id history) history
  AcceptsIds history NextId reply =
      let active = active_id history in reply ≡ moved active (least_from (active + 1) history) history
  AcceptsIds history (InitialId id) reply = reply ≡ (if active_id history == 0 then Ok Done else Err NotInitialId)
  AcceptsIds history event reply = Unit {0}
