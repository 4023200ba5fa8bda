-- What happens to the peer's IDs, and what it changes (RFC 9000, 5.1.1 and 5.1.2).
use Rattle.std.specs.Prelude.{◌≡◌, ℕ, zero, suc, ◌+◌, max, List, Option, None, Some, is_some, unwrap_or, if◌then◌else◌}
use Rattle.recovery_base.specs.declared.below.ids.NewConnectionId.{NewConnectionId}
use Rattle.recovery_ids.specs.RemoteIds.{IdTable, RemoteIds, AreInWindow, active_connection_id_limit, with_id, with_frame, without_id}

pub data RemoteEntry : Type 0 where
  -- a NEW_CONNECTION_ID frame is accepted (19.15)
  given : (frame : NewConnectionId) → RemoteEntry
  -- the local endpoint moves to the next ID that it holds (5.1.2)
  used : RemoteEntry
  -- the initial ID is replaced (7.2)
  replaced : (id : List ℕ) → RemoteEntry

-- the first of this many numbers that is held, if any
unfoldable pub first_held : IdTable → ℕ → ℕ → Option ℕ
first_held held low zero = None
first_held held low (suc more) = if is_some (held low) then Some low else first_held held (low + 1) more

-- the smallest number held, not below another, if any: all held are among this many numbers
abbrev pub least_held : IdTable → ℕ → Option ℕ
least_held held low = first_held held low active_connection_id_limit

-- a frame's ID is held, the numbers that the frame retires are not, and the smallest one held is active
abbrev pub ids_given : NewConnectionId → RemoteIds → RemoteIds
ids_given frame ids =
    let held = with_frame frame ids.held in
    let least = least_held held (max ids.active frame.retire_prior_to) in
    record { active = unwrap_or least ids.active; held = held }

-- the active ID is dropped, and the next one is active; if there is none, nothing changes
abbrev pub with_active : Option ℕ → RemoteIds → RemoteIds
with_active None ids = ids
with_active (Some next) ids = record { active = next; held = without_id ids.active ids.held }

-- the next ID is the one with the smallest number held above the active one
abbrev pub ids_used : RemoteIds → RemoteIds
ids_used ids = with_active (least_held ids.held (ids.active + 1)) ids

-- the IDs after one entry
unfoldable pub remote_ids_with : RemoteEntry → RemoteIds → RemoteIds
remote_ids_with (given frame) ids = ids_given frame ids
remote_ids_with used ids = ids_used ids
remote_ids_with (replaced id) ids = record ids { held = with_id 0 (id, None) ids.held }

-- at first only the initial ID is held, as number 0 (5.1.1)
abbrev pub initial_ids : List ℕ → RemoteIds
initial_ids initial = record { active = 0; held = with_id 0 (initial, None) (λ n. None) }

-- ---- what an entry changes

-- the IDs are those after the entry: the active one is held, and is the smallest number held
pub record RemoteStep (entry : RemoteEntry) (old new : RemoteIds) : Type 0 where
  pub same : new ≡ remote_ids_with entry old
  pub window : AreInWindow new
