-- What can be read of a sender, next to its recovery: the purpose of its timer, and the room that is left (RFC 9000,
-- 8.1; RFC 9002, 6.2, 7 and A.8).
use Rattle.std.specs.Prelude.{ℕ, ◌*◌, ◌-◌, min, ◌&&◌, not, Bool, Option, None, Some, if◌then◌else◌}
use Rattle.recovery_base.specs.Units.{largest_u64}
use Rattle.recovery_base.specs.declared.below.SpaceId.TheVariants.{Data}
use Rattle.recovery_congestion.specs.Controllers.{ControllerSemantics}
use Rattle.recovery_paths.specs.PathStates.{amplification_factor, is_blocked}
use Rattle.recovery_history.specs.RecoveryState.{RecoveryState}
use Rattle.recovery_losses.specs.declared.due.Due.{Due}
use Rattle.recovery_losses.specs.declared.variables.Variables.{Variables}
use Rattle.recovery_sender.specs.declared.sender.readings.TimerState.{TimerState}
use Rattle.recovery_sender.specs.declared.sender.readings.TimerState.TheVariants.{Set, Blocked, Unconfirmed, Idle}
use Rattle.recovery_sender.specs.Calls.{bytes_in_flight, window_of}
use Rattle.recovery_sender.specs.Timer.{due_of, tracks_eliciting, least_datagram}

-- why nothing is due: the amplification limit permits no datagram, only 1-RTT packets are in flight and wait for the
-- handshake, or no ack-eliciting packet is in flight
abbrev pub timer_unset : (blocked unconfirmed : Bool) → TimerState
timer_unset blocked unconfirmed = if blocked then Blocked else if unconfirmed then Unconfirmed else Idle

abbrev pub timer_state_by : Option (ℕ × Due) → (blocked unconfirmed : Bool) → TimerState
timer_state_by None blocked unconfirmed = timer_unset blocked unconfirmed
timer_state_by (Some due) blocked unconfirmed = Set due.0 due.1

module _ {K P M : Type 0} (recovery : RecoveryState K P M) where
  -- what the timer is set for, or why it is not set
  abbrev pub timer_state : Variables → TimerState
  timer_state variables = timer_state_by (due_of recovery variables)
      (is_blocked recovery.paths.current.state least_datagram)
      (not variables.is_handshake_confirmed && tracks_eliciting recovery variables Data)

  -- how many bytes the amplification limit permits, if it applies to the path in use
  abbrev pub amplification_room : Option ℕ
  amplification_room = let path = recovery.paths.current.state in if path.validated then None
      else Some (min (amplification_factor * path.total_recvd - path.total_sent) largest_u64)

-- how many bytes more fit into the window
abbrev pub window_room : {K P M : Type 0} → ControllerSemantics K → RecoveryState K P M → ℕ
window_room words recovery = window_of words recovery - bytes_in_flight recovery
