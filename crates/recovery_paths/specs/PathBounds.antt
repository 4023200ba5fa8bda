-- Bounds on what is kept for a path: on the bytes transmitted to an address that is not validated (RFC 9000, 8.1), and
-- on the start of the controller's recovery period (RFC 9002, 7.3.2).
use Rattle.std.specs.Prelude.{◌≡◌, ℕ, ◌*◌, ◌≤◌, false}
use Rattle.recovery_congestion.specs.Controllers.{ControllerSemantics}
use Rattle.recovery_paths.specs.PathLog.{OnEachPath, PathReplyInputs, PerPath}
use Rattle.recovery_paths.specs.PathStates.{PathState, amplification_factor}

module _ {K : Type 0} where
  -- until its address is validated, at most three times the bytes received on the path were transmitted on it
  abbrev pub IsThreefold : PathState K → Type 0
  IsThreefold path = path.validated ≡ false → path.total_sent ≤ amplification_factor * path.total_recvd

  -- and the recovery period of its controller starts at this time at the latest
  pub record IsWithinBounds (words : ControllerSemantics K) (latest : ℕ) (path : PathState K) : Type 0 where
    pub threefold : IsThreefold path
    pub start : words.recovery_start path.controller ≤ latest

  abbrev pub AreWithinBounds : ControllerSemantics K → ℕ → PerPath (PathReplyInputs K) → Type 0
  AreWithinBounds words latest paths = OnEachPath (λ there. IsWithinBounds words latest there.state) paths
