-- The entries of a window.
use Rattle.std.specs.Prelude.{ℕ, ◌≡◌, ◌+◌, ◌%◌, ◌<◌, ◌≤◌, ◌&&◌, nat_lt, nat_le, List, Option, None, Some, IsSome, IfSome, slice_index_or, if◌then◌else◌}
use Rattle.recovery_base.specs.Units.{number_limit}
use Rattle.recovery_ids.specs.RemoteIds.{HeldId, RemoteIds, IsLeastHeld, without_below}
use Rattle.recovery_ids.specs.declared.window.TheConstants.{LEN}
use Rattle.recovery_ids.specs.declared.window.Window.{Window}

-- the window has room for a number
abbrev pub FitsInWindow : Window → ℕ → Type 0
FitsInWindow window n = (window.start ≤ n) × (n < window.start + LEN)

-- the entry of a number: none outside the window
abbrev pub held_at : Window → ℕ → Option HeldId
held_at window n =
    if nat_le window.start n && nat_lt n (window.start + LEN) then slice_index_or window.entries (n % LEN) None
    else None

-- the IDs of a window, whose start is the active number
abbrev pub ids_in : Window → RemoteIds
ids_in window = record { active = window.start; held = held_at window }

-- the smallest number of the window is held, each number held above it has a token, and all are below 2^62
pub record IsWindowSound (window : Window) : Type 0 where
  pub small : window.start < number_limit
  pub active_held : IsSome (held_at window window.start)
  pub tokens : (n : ℕ) → window.start < n → IfSome (held_at window n) (λ entry. IsSome entry.1)
  pub numbers : (n : ℕ) → IsSome (held_at window n) → n < number_limit

-- the start moves to the smallest number held, not below another, which has a token
pub record Advances (old : Window) (low : ℕ) (token : List ℕ) (new : Window) : Type 0 where
  pub least : IsLeastHeld (held_at old) low new.start
  pub held : (n : ℕ) → held_at new n ≡ without_below new.start (held_at old) n
  pub token_held : (id : List ℕ) × (held_at old new.start ≡ Some (id, Some token))
