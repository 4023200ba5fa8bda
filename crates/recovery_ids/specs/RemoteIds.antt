-- The peer's IDs that are held (RFC 9000, 5.1.1 and 19.15): a table from numbers to IDs with their tokens, and the
-- number of the active ID.
use Rattle.std.specs.Prelude.{ℕ, ◌≡◌, ◌+◌, ◌-◌, ◌<◌, ◌≤◌, ◌==◌, nat_lt, max, min, List, Option, Some, None, IsSome, IfSome, IsSomeAnd, option_map, if◌then◌else◌}
use Rattle.std.specs.List.{filter_map, range_with_len}
use Rattle.std.specs.declared.ops.Range.{Range}
use Rattle.recovery_base.specs.declared.below.ids.NewConnectionId.{NewConnectionId}
use Rattle.recovery_ids.specs.declared.queue.InsertError.{InsertError}
use Rattle.recovery_ids.specs.declared.queue.InsertError.TheVariants.{Retired, ExceedsLimit, Conflict}

-- the most IDs of the peer that the local endpoint stores. It states this limit to the peer (RFC 9000, 18.2), which
-- issues no more (5.1.1)
abbrev pub active_connection_id_limit : ℕ
active_connection_id_limit = 8

-- an ID, with its token if it has one
abbrev pub HeldId : Type 0
HeldId = List ℕ × Option (List ℕ)

-- the entry of each number
abbrev pub IdTable : Type 0
IdTable = ℕ → Option HeldId

-- the table with an entry for one number
abbrev pub with_id : ℕ → HeldId → IdTable → IdTable
with_id number entry held n = if n == number then Some entry else held n

-- the table without one number
abbrev pub without_id : ℕ → IdTable → IdTable
without_id number held n = if n == number then None else held n

-- the table without the numbers below another
abbrev pub without_below : ℕ → IdTable → IdTable
without_below low held n = if nat_lt n low then None else held n

-- n is the smallest number held, not below another
pub record IsLeastHeld (held : IdTable) (low n : ℕ) : Type 0 where
  pub bound : low ≤ n
  pub is_held : IsSome (held n)
  pub least : (m : ℕ) → low ≤ m → m < n → held m ≡ None

-- the IDs that are held, and the number of the active one
pub record RemoteIds : Type 0 where
  pub active : ℕ
  pub held : IdTable

-- the table with a frame's ID, and without the numbers that the frame retires
abbrev pub with_frame : NewConnectionId → IdTable → IdTable
with_frame frame held =
    with_id frame.sequence (frame.id, Some frame.reset_token) (without_below frame.retire_prior_to held)

-- the answer to a move of the active number: the numbers to retire, at most as many as are stored, and the new active
-- ID's token
pub record MoveAnswer (old : RemoteIds) (range : Range ℕ) (token : List ℕ) (new : RemoteIds) : Type 0 where
  pub begins : range.start ≡ old.active
  pub ends : range.end ≡ min new.active (old.active + active_connection_id_limit)
  pub token_held : (id : List ℕ) × (new.held new.active ≡ Some (id, Some token))

-- a frame for a number that is held repeats it: its ID is the one held, and its token too, if one is held
abbrev pub RepeatsFrame : NewConnectionId → IdTable → Type 0
RepeatsFrame frame held = IfSome (held frame.sequence)
    (λ entry. (frame.id ≡ entry.0) × IfSome entry.1 (λ token. frame.reset_token ≡ token))

-- the IDs after a frame is accepted: the active number is the smallest one held, and moves exactly if the frame retires
-- it
pub record AcceptsFrame (old : RemoteIds) (frame : NewConnectionId) (answer : Option (Range ℕ × List ℕ))
    (new : RemoteIds) : Type 0 where
  pub in_window : (old.active ≤ frame.sequence)
      × (frame.sequence < max old.active frame.retire_prior_to + active_connection_id_limit)
  pub repeats : RepeatsFrame frame old.held
  pub held : (n : ℕ) → new.held n ≡ with_frame frame old.held n
  pub active : IsLeastHeld new.held 0 new.active
  pub stays : frame.retire_prior_to ≤ old.active → (new.active ≡ old.active) × (answer ≡ None)
  pub moves : old.active < frame.retire_prior_to → IsSomeAnd answer (λ told. MoveAnswer old told.0 told.1 new)

-- the errors of a frame
abbrev pub RefusesFrame : RemoteIds → NewConnectionId → InsertError → Type 0
RefusesFrame old frame Retired = frame.sequence < old.active
RefusesFrame old frame ExceedsLimit =
    max old.active frame.retire_prior_to + active_connection_id_limit ≤ frame.sequence
RefusesFrame old frame Conflict = ¬ RepeatsFrame frame old.held

-- a move to the next ID: the active one is dropped, and the smallest number held above it becomes active
pub record MovesToNext (old : RemoteIds) (token : List ℕ) (range : Range ℕ) (new : RemoteIds) : Type 0 where
  pub active : IsLeastHeld old.held (old.active + 1) new.active
  pub held : (n : ℕ) → new.held n ≡ without_id old.active old.held n
  pub told : MoveAnswer old range token new
  pub whole : range.end ≡ new.active

-- the range that an answer retires begins at the old active number, is not empty, and does not end after the new one.
-- It has at most as many numbers as are stored, and has every number that was dropped
pub record IsRetirement (old : RemoteIds) (range : Range ℕ) (new : RemoteIds) : Type 0 where
  pub begins : range.start ≡ old.active
  pub not_empty : range.start < range.end
  pub ends : range.end ≤ new.active
  pub cut : range.end ≤ old.active + active_connection_id_limit
  pub dropped : (n : ℕ) → IsSome (old.held n) → new.held n ≡ None → (range.start ≤ n) × (n < range.end)

-- the active number is held, and all that are held are among as many numbers from it on as are stored
pub record AreInWindow (ids : RemoteIds) : Type 0 where
  pub active_held : IsSome (ids.held ids.active)
  pub within : (n : ℕ) → IsSome (ids.held n) → (ids.active ≤ n) × (n < ids.active + active_connection_id_limit)

-- the entry at a distance above the active number
abbrev pub item_at : RemoteIds → ℕ → Option (ℕ × HeldId)
item_at ids step = option_map (λ entry. (step, entry)) (ids.held (ids.active + step))

-- the entries from a distance on, in order
abbrev pub items_from : ℕ → RemoteIds → List (ℕ × HeldId)
items_from step ids = filter_map (item_at ids) (range_with_len step (active_connection_id_limit - step))
