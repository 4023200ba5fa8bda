-- The entries of a window after its lowest numbers are dropped: `drop_below` rests on it.
use Rattle.std.proofs.Common.{◌≡◌, ℕ, ◌+◌, ◌%◌, ◌<◌, ◌≤◌, max, None, get_or, arith}
use Rattle.recovery_ids.specs.declared.window.TheConstants.{LEN}
use Rattle.recovery_ids.specs.declared.window.Window.{Window}
use Rattle.recovery_ids.specs.RemoteIds.{without_below}
use Rattle.recovery_ids.specs.Window.{held_at}

-- numbers new in the window have no entry, and the others have the same entry
pub drops_below : (old new : Window) → old.start ≤ new.start →
    ((m : ℕ) → max (old.start + LEN) new.start ≤ m → m < new.start + LEN → get_or new.entries (m % LEN) None ≡ None) →
    ((m : ℕ) → new.start ≤ m → m < old.start + LEN
    → get_or new.entries (m % LEN) None ≡ get_or old.entries (m % LEN) None) →
    (n : ℕ) → held_at new n ≡ without_below new.start (held_at old) n
drops_below _ _ ahead fresh kept n =
    let free = fresh n in
    let same = kept n in
    grind arith
