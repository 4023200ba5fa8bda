-- The peer's IDs after the active number moves. `insert` rests on it.
use Rattle.std.proofs.Common.{◌≡◌, ℕ, ◌+◌, ◌-◌, ◌<◌, ◌≤◌, ◌≢◌, max, min, List, Some, None, IsSome, arith, ◌∙◌}
use Rattle.std.specs.declared.ops.Range.{Range}
use Rattle.std.proofs.lemmas.Bool.Decides.{nat_tests}
use Rattle.recovery_base.specs.declared.below.ids.NewConnectionId.{NewConnectionId}
use Rattle.recovery_ids.specs.declared.window.TheConstants.{LEN}
use Rattle.recovery_ids.specs.declared.window.Window.{Window}
use Rattle.recovery_ids.specs.RemoteIds.{IdTable, IsLeastHeld, with_id, without_below, with_frame, RepeatsFrame, AcceptsFrame, IsRetirement}
use Rattle.recovery_ids.specs.Window.{held_at, Advances}
use Rattle.recovery_ids.specs.CidQueue.{remote_ids}

-- a table to which a frame's number is added, and whose numbers below the smallest are dropped
frame_table : (frame : NewConnectionId) (low least : ℕ) (old lower mid new : IdTable) → low ≡ frame.retire_prior_to
    → low ≤ frame.sequence → ((n : ℕ) → lower n ≡ without_below low old n)
    → ((n : ℕ) → mid n ≡ with_id frame.sequence (frame.id, Some frame.reset_token) lower n) → IsLeastHeld mid low least
    → ((n : ℕ) → new n ≡ without_below least mid n)
    → (n : ℕ) → (new n ≡ with_frame frame old n) × (least ≤ n → new n ≡ mid n) × (n < least → new n ≡ None)
frame_table frame _ _ _ _ _ _ is_low ordered drops adds is_least moves n =
    let at_most = is_least.least frame.sequence in
    let none = is_least.least n in
    let bound = is_least.bound in
    grind (arith, nat_tests, drops n, adds n, adds frame.sequence, moves n, at_most, none, bound)

-- what the window holds is in it
entry_within : (window : Window) (n : ℕ) → IsSome (held_at window n) → (window.start ≤ n) × (n < window.start + LEN)
entry_within _ n here = grind arith

-- the code's steps: numbers below low are dropped, the frame's ID is added, and the start moves to the smallest number
-- held
module _ (old lower mid new : Window) (frame : NewConnectionId) (token : List ℕ) (low : ℕ)
    (ordered : frame.retire_prior_to ≤ frame.sequence)
    (is_low : low ≡ max old.start frame.retire_prior_to) (retires : low ≢ old.start)
    (above : old.start ≤ frame.sequence)
    (below : frame.sequence - low < LEN) (drops : (n : ℕ) → held_at lower n ≡ without_below low (held_at old) n)
    (adds : (n : ℕ) → held_at mid n ≡ with_id frame.sequence (frame.id, Some frame.reset_token) (held_at lower) n)
    (moves : Advances mid low token new) where
  low_is : low ≡ frame.retire_prior_to
  low_is = omega arith

  after : (n : ℕ) → (held_at new n ≡ with_frame frame (held_at old) n)
      × (new.start ≤ n → held_at new n ≡ held_at mid n) × (n < new.start → held_at new n ≡ None)
  after = frame_table _ low _ _ _ (held_at mid) (held_at new) low_is
      (omega arith) drops adds moves.least moves.held

  start_held : held_at new new.start ≡ held_at mid new.start
  start_held = (after _).1 (omega arith)

  pub accepts_move : RepeatsFrame frame (held_at old) → (range : Range ℕ) → range.start ≡ old.start →
      range.end ≡ min new.start (old.start + LEN) →
      AcceptsFrame (remote_ids old) frame (Some (range, token)) (remote_ids new)
  accepts_move repeats _ begins ends = record {
    in_window = (above, omega arith);
    repeats = repeats;
    held = λ n. (after n).0;
    active = record {
      bound = omega arith;
      is_held = rw start_held moves.least.is_held;
      least = λ n above. (after n).2;
    };
    stays = λ stays. absurd (omega arith);
    moves = λ _. record {
      begins = begins;
      ends = ends;
      token_held = (moves.token_held.0, start_held ∙ moves.token_held.1);
    };
  }

-- a move that answers a frame retires numbers
pub retires : (old new : Window) (frame : NewConnectionId) (range : Range ℕ) (token : List ℕ)
    → AcceptsFrame (remote_ids old) frame (Some (range, token)) (remote_ids new) → old.start < frame.retire_prior_to
    → frame.retire_prior_to ≤ frame.sequence → IsRetirement (remote_ids old) range (remote_ids new)
retires old new frame _ _ accepts ahead ordered =
    let told = accepts.moves ahead in
    let reached : frame.retire_prior_to ≤ new.start =
    grind (arith, nat_tests, accepts.held new.start, accepts.active.is_held, ordered) in
    record {
      begins = told.begins;
      not_empty = omega (arith, told.begins, told.ends, reached, ahead);
      ends = omega (arith, told.ends);
      cut = omega (arith, told.ends);
      dropped = λ n here gone.
          grind (arith, nat_tests, accepts.held n, gone, here, reached, told, entry_within old n here);
    }
