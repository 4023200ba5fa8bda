-- What a congestion controller's calls do to its contents, and the laws that every controller proves (RFC 9002, 7).
use Rattle.std.specs.Prelude.{◌≡◌, ℕ, ◌<◌, ◌≤◌, max, Bool, true}
use Rattle.recovery_congestion.specs.Calls.{ControllerCall, congests, IsPositive, congestion_time}
use Rattle.recovery_congestion.specs.declared.congestion.ControllerMetrics.{ControllerMetrics}

-- what a call makes of the contents K of a controller, and what it reports
pub record ControllerSemantics (K : Type 0) : Type 0 where
  pub after : ControllerCall → K → K
  pub window : K → ℕ
  -- the window that persistent congestion leaves (RFC 9002, 7.6.2)
  pub least : K → ℕ
  -- the start of the last recovery (RFC 9002, 7.3.2), 0 for a controller that has none
  pub recovery_start : K → ℕ
  pub metrics : K → ControllerMetrics
  pub initial : K → ℕ

abbrev pub HasLeastWindow : {K : Type 0} → ControllerSemantics K → K → Type 0
HasLeastWindow words k = words.window k ≡ words.least k

pub record ControllerLaws {K : Type 0} (words : ControllerSemantics K) (IsSound : K → Type 0) : Type 0 where
  -- sound contents stay sound, while MTUs are above zero, and their window is above zero
  pub after : (call : ControllerCall) (k : K) → IsPositive call → IsSound k → IsSound (words.after call k)
  pub window : (k : K) → IsSound k → 0 < words.window k
  -- only congestion moves the start of the recovery, at most to the time at which it is found
  pub start : (call : ControllerCall) (k : K)
      → words.recovery_start (words.after call k) ≤ max (words.recovery_start k) (congestion_time call)
  -- persistent congestion leaves the minimum window, if the last packet was sent after that start (RFC 9002, 7.6.2)
  pub persistent : (now sent lost : ℕ) (k : K) → words.recovery_start k < sent
      → HasLeastWindow words (words.after (congests now sent true lost) k)
  -- congestion leaves the minimum window unchanged
  pub least : (now sent : ℕ) (persistent : Bool) (lost : ℕ) (k : K) → HasLeastWindow words k
      → HasLeastWindow words (words.after (congests now sent persistent lost) k)
