-- A controller's window is reduced once for all that was in flight then (RFC 9002, 7.3.2). Lists are newest first.
use Rattle.std.specs.Prelude.{ℕ, ◌<◌, ◌≤◌, List, [], ◌∷◌}
use Rattle.recovery_congestion.specs.Calls.{ControllerCall, congests}
use Rattle.recovery_congestion.specs.Controllers.{ControllerSemantics}
use Rattle.recovery_base.specs.Units.{largest_u64}

-- congestion is reported in order of time
abbrev pub IsBehind : ℕ → List ControllerCall → Type 0
IsBehind now [] = Unit {0}
IsBehind now (congests before sent persistent lost ∷ earlier) = (before ≤ now) × IsBehind now earlier
IsBehind now (call ∷ earlier) = IsBehind now earlier

abbrev pub AreInOrder : List ControllerCall → Type 0
AreInOrder [] = Unit {0}
AreInOrder (congests now sent persistent lost ∷ earlier) = IsBehind now earlier × AreInOrder earlier
AreInOrder (call ∷ earlier) = AreInOrder earlier

-- a controller is built with these contents
module _ {K : Type 0} (words : ControllerSemantics K) (built : K) where
  -- the contents after calls
  abbrev pub content_by : List ControllerCall → K
  content_by [] = built
  content_by (call ∷ earlier) = words.after call (content_by earlier)

  -- a call reduces the window
  abbrev pub LowersWindow : ControllerCall → List ControllerCall → Type 0
  LowersWindow call earlier = words.window (content_by (call ∷ earlier)) < words.window (content_by earlier)

  -- each congestion event that reduced the window happened before this time
  abbrev pub ReducedBefore : ℕ → List ControllerCall → Type 0
  ReducedBefore time [] = Unit {0}
  ReducedBefore time (congests now sent persistent lost ∷ earlier) =
      (LowersWindow (congests now sent persistent lost) earlier → now < time) × ReducedBefore time earlier
  ReducedBefore time (call ∷ earlier) = ReducedBefore time earlier

  -- only congestion reduces the window, and only for a packet that was sent after each earlier reduction
  abbrev pub ReducesOncePerRound : ControllerCall → List ControllerCall → Type 0
  ReducesOncePerRound (congests now sent persistent lost) earlier =
      LowersWindow (congests now sent persistent lost) earlier → ReducedBefore sent earlier
  ReducesOncePerRound call earlier = words.window (content_by earlier) ≤ largest_u64 → LowersWindow call earlier → ⊥
