-- The IDs that the peer issued (RFC 9000, 5.1.1): the initial one under number 0, and one by each NEW_CONNECTION_ID
-- frame that was accepted. The active one has the smallest number that is not retired (5.1.2).
use Rattle.std.specs.Prelude.{◌≡◌, ℕ, ◌≤◌, max, min, ◌==◌, nat_lt, List, [], ◌∷◌, Option, None, Some, option_map, unwrap_or, Ok, if◌then◌else◌}
use Rattle.recovery_ids.specs.RemoteIds.{HeldId, RemoteIds, AreInWindow}
use Rattle.recovery_events.specs.declared.event.Event.TheVariants.{NewId, NextId, InitialId}
use Rattle.recovery_events.specs.declared.event.Answer.TheVariants.{Retire}
use Rattle.recovery_history.specs.History.{History}

module _ {Q S M P : Type 0} where
  -- the ID issued last under a number, with its token; the initial one has no token
  abbrev pub id_under : List ℕ → ℕ → History Q S M P → Option HeldId
  id_under initial n [] = if n == 0 then Some (initial, None) else None
  id_under initial n ((NewId frame, Ok answer) ∷ earlier) =
      if n == frame.sequence then Some (frame.id, Some frame.reset_token) else id_under initial n earlier
  id_under initial n ((InitialId id, Ok answer) ∷ earlier) =
      if n == 0 then Some (id, None) else id_under initial n earlier
  id_under initial n (happened ∷ earlier) = id_under initial n earlier

  -- the numbers below this one are retired, by frames and by moves to the next ID
  abbrev pub retired_below : History Q S M P → ℕ
  retired_below [] = 0
  retired_below ((NewId frame, Ok answer) ∷ earlier) = max frame.retire_prior_to (retired_below earlier)
  retired_below ((NextId, Ok (Retire (Some told))) ∷ earlier) = told.0.end
  retired_below (happened ∷ earlier) = retired_below earlier

  -- the smallest number, not below this one, under which an ID was issued
  abbrev pub least_from : ℕ → History Q S M P → Option ℕ
  least_from low [] = if low == 0 then Some 0 else None
  least_from low ((NewId frame, Ok answer) ∷ earlier) =
      let least = least_from low earlier in
      if nat_lt frame.sequence low then least
      else Some (unwrap_or (option_map (min frame.sequence) least) frame.sequence)
  least_from low (happened ∷ earlier) = least_from low earlier

  -- the number of the active ID
  abbrev pub active_id : History Q S M P → ℕ
  active_id history = unwrap_or (least_from (retired_below history) history) 0

  -- the IDs that are held: those issued from the active one on
  abbrev pub ids_held : List ℕ → History Q S M P → RemoteIds
  ids_held initial history = record {
    active = active_id history;
    held = λ n. if nat_lt n (active_id history) then None else id_under initial n history;
  }

  -- these are held; the active one is held and the smallest, and all are within eight numbers from it on
  abbrev pub AreHeld : List ℕ → History Q S M P → RemoteIds → Type 0
  AreHeld initial history ids = ((n : ℕ) → retired_below history ≤ n → ids.held n ≡ id_under initial n history)
      × (retired_below history ≤ ids.active) × AreInWindow ids
