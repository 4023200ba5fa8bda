-- When each path stays within its bounds: a datagram that an event transmits is within the amplification limit (RFC
-- 9000, 8.1), and congestion and new paths come by the latest start of a recovery period (RFC 9002, 7.3.2).
use Rattle.std.specs.Prelude.{◌≡◌, ℕ, ◌≤◌, false}
use Rattle.recovery_events.specs.declared.event.Event.{Event}
use Rattle.recovery_events.specs.declared.event.Event.TheVariants.{Congestion, NewPath, ResetPath, Transmit}
use Rattle.recovery_paths.specs.PathStates.{is_blocked}
use Rattle.recovery_history.specs.RecoveryState.{RecoveryState}

module _ {K P M : Type 0} (latest : ℕ) (recovery : RecoveryState K P M) where
  abbrev pub StaysInBounds : {Q S : Type 0} → Event Q S M P → Type 0
  StaysInBounds (Transmit now bytes checked) = is_blocked recovery.paths.current.state bytes ≡ false
  StaysInBounds (Congestion now sent persistent bytes) = now ≤ latest
  StaysInBounds (NewPath now remote is_fresh) = now ≤ latest
  StaysInBounds (ResetPath now) = now ≤ latest
  StaysInBounds event = Unit {0}
