-- Worked rows: the peer's IDs after some entries, computed. Nothing rests on them.
use Rattle.std.proofs.Common.{◌≡◌, ℕ, List, [], ◌∷◌, None, Some, refl}
use Rattle.recovery_base.specs.declared.below.ids.NewConnectionId.{NewConnectionId}
use Rattle.recovery_ids.specs.RemoteIds.{RemoteIds}
use Rattle.recovery_ids.specs.RemoteStep.{RemoteEntry, given, used, replaced, first_held, remote_ids_with, initial_ids}

-- a frame whose ID and token are one byte
abbrev frame : ℕ → ℕ → ℕ → NewConnectionId
frame sequence retire_prior_to byte =
    record { sequence = sequence; retire_prior_to = retire_prior_to; id = byte ∷ []; reset_token = byte ∷ [] }

-- the initial ID, and then all that happened, the newest first
abbrev ids_by : List RemoteEntry → RemoteIds
ids_by [] = initial_ids (255 ∷ [])
ids_by (entry ∷ earlier) = remote_ids_with entry (ids_by earlier)

-- number 2 is received, and 3 with a retirement of 0
abbrev log : List RemoteEntry
log = given (frame 3 1 8) ∷ given (frame 2 0 7) ∷ []

least_is_active : (ids_by log).active ≡ 2
unfolding remote_ids_with first_held
least_is_active = refl

zero_is_gone : (ids_by log).held 0 ≡ None
unfolding remote_ids_with first_held
zero_is_gone = refl

three_is_held : (ids_by log).held 3 ≡ Some (8 ∷ [], Some (8 ∷ []))
unfolding remote_ids_with first_held
three_is_held = refl

next_is_three : (ids_by (used ∷ log)).active ≡ 3
unfolding remote_ids_with first_held
next_is_three = refl

two_is_dropped : (ids_by (used ∷ log)).held 2 ≡ None
unfolding remote_ids_with first_held
two_is_dropped = refl

-- number 3 is the last one
last_stays : (ids_by (used ∷ used ∷ log)).active ≡ 3
unfolding remote_ids_with first_held
last_stays = refl

-- a gap of numbers that were not received
gap_is_passed : (ids_by (given (frame 1_000_000 1_000_000 9) ∷ log)).active ≡ 1_000_000
unfolding remote_ids_with first_held
gap_is_passed = refl

initial_is_replaced : (ids_by (replaced (254 ∷ []) ∷ [])).held 0 ≡ Some (254 ∷ [], None)
unfolding remote_ids_with
initial_is_replaced = refl

-- a frame that repeats the initial ID brings its token
token_is_kept : (ids_by (given (frame 0 0 255) ∷ [])).held 0 ≡ Some (255 ∷ [], Some (255 ∷ []))
unfolding remote_ids_with first_held
token_is_kept = refl

-- eight numbers are examined: the last of them is found
eighth_is_found : (ids_by (used ∷ given (frame 7 0 7) ∷ [])).active ≡ 7
unfolding remote_ids_with first_held
eighth_is_found = refl
