-- Bounds that every sender maintains on each path: on the bytes to an address that is not validated (RFC 9000, 8.1),
-- and on the start of the controller's recovery period (RFC 9002, 7.3.2).
use Rattle.std.specs.Prelude.{ℕ, ◌-◌, ◌≤◌}
use Rattle.recovery_base.specs.Units.{last_time}
use Rattle.recovery_congestion.specs.Controllers.{ControllerSemantics, HasLeastWindow}
use Rattle.recovery_events.specs.declared.event.Event.{Event}
use Rattle.recovery_events.specs.declared.event.Event.TheVariants.{NewPath, ResetPath}
use Rattle.recovery_paths.specs.PathBounds.{AreWithinBounds}
use Rattle.recovery_paths.specs.PathLog.{paths_known}
use Rattle.recovery_history.specs.RecoveryState.{RecoveryState}

-- no recovery period starts later, so that the clock's end is later than each start
abbrev pub latest_start : ℕ
latest_start = last_time - 1

abbrev pub ArePathsBounded : {K P M : Type 0} → ControllerSemantics K → RecoveryState K P M → Type 0
ArePathsBounded words recovery = AreWithinBounds words latest_start (paths_known recovery.paths)

-- the window of the path in use is its controller's minimum (RFC 9002, 7.6.2)
abbrev pub IsWindowLeast : {K P M : Type 0} → ControllerSemantics K → RecoveryState K P M → Type 0
IsWindowLeast words recovery = HasLeastWindow words recovery.paths.current.state.controller

-- a path that an event makes is made by then
abbrev pub MakesPathEarly : {Q S M P : Type 0} → Event Q S M P → Type 0
MakesPathEarly (NewPath now remote is_fresh) = now ≤ latest_start
MakesPathEarly (ResetPath now) = now ≤ latest_start
MakesPathEarly event = Unit {0}
