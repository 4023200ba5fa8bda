-- When the loss detection timer is due, and its purpose (RFC 9002, 6.2 and A.8), by what can be read of a sender.
use Rattle.std.specs.Prelude.{◌≡◌, ℕ, ◌+◌, ◌||◌, ◌&&◌, not, min, Bool, false, Option, None, Some, option_map, if◌then◌else◌}
use Rattle.std.specs.List.{list_any}
use Rattle.std.specs.Option.{is_some, option_and_then, option_map_or, option_or}
use Rattle.recovery_base.specs.declared.below.SpaceId.{SpaceId}
use Rattle.recovery_base.specs.declared.below.SpaceId.TheVariants.{Initial, Handshake, Data}
use Rattle.recovery_base.specs.declared.timer.Timer.TheVariants.{LossDetection}
use Rattle.recovery_base.specs.Spaces.{same_space}
use Rattle.recovery_base.specs.Timers.{moment}
use Rattle.recovery_base.specs.Units.{last_time}
use Rattle.recovery_congestion.specs.Rtt.{Rtt, pto_base_of, rtt_made}
use Rattle.recovery_spaces.specs.Discarded.{is_discarded}
use Rattle.recovery_spaces.specs.Packets.{Packets}
use Rattle.recovery_spaces.specs.Spaces.{Space, packets_of}
use Rattle.recovery_losses.specs.Due.{sooner}
use Rattle.recovery_losses.specs.Timeouts.{probe_start_of}
use Rattle.recovery_losses.specs.Variables.{is_address_validated, pto_by, waiting_since}
use Rattle.recovery_paths.specs.PathStates.{is_blocked}
use Rattle.recovery_history.specs.RecoveryState.{RecoveryState}
use Rattle.recovery_losses.specs.declared.due.Due.{Due}
use Rattle.recovery_losses.specs.declared.due.Due.TheVariants.{Losses, Probes, AntiDeadlock}
use Rattle.recovery_losses.specs.declared.variables.Variables.{Variables}
use Rattle.recovery_sender.specs.Spaces.{space_in}

-- ---- the earliest of several times

-- the earliest of all spaces
abbrev pub soonest : (SpaceId → Option (ℕ × Due)) → Option (ℕ × Due)
soonest due = sooner (sooner (due Initial) (due Handshake)) (due Data)

-- `span` after a time, capped at the last time of the clock
abbrev pub behind : ℕ → ℕ → ℕ
behind time span = min (time + span) last_time

-- an RTT estimate, or one without a sample with this initial RTT
abbrev pub rtt_or : Option ℕ → Rtt → Rtt
rtt_or None rtt = rtt
rtt_or (Some initial) rtt = if is_some rtt.smoothed then rtt else rtt_made initial

-- ---- tracked packets

-- a packet is ack-eliciting
abbrev pub has_eliciting : {P M : Type 0} → Packets P M → Bool
has_eliciting packets = list_any (λ entry. entry.1.ack_eliciting) packets

-- what a probe needs: a datagram with an ack-eliciting Initial packet has at least this size, in bytes (RFC 9000, 14.1)
abbrev pub least_datagram : ℕ
least_datagram = 1200

-- ---- durations

module _ {K P M : Type 0} (recovery : RecoveryState K P M) where
  -- the RTT estimate that timers use: before the first sample of the path in use, the initial RTT that the caller set,
  -- if it set one (RFC 9002, 6.2.2)
  abbrev pub rtt_in : Variables → Rtt
  rtt_in variables = rtt_or variables.initial_rtt recovery.paths.current.state.rtt

  -- a packet of the space may be lost
  abbrev pub loss_due : SpaceId → Option (ℕ × Due)
  loss_due space = option_map (λ time. (time, Losses space)) (option_and_then (λ here. here.loss_time)
      (space_in recovery space))

  -- the probe timeout, by the path in use (RFC 9002, 6.2.1)
  abbrev pub pto_of : Variables → SpaceId → ℕ
  pto_of variables space = pto_by (pto_base_of (rtt_in variables)) variables space

module _ {K P M : Type 0} (recovery : RecoveryState K P M) (variables : Variables) where
  -- 1-RTT packets are not probed for until the handshake is confirmed (RFC 9002, 6.2.1)
  abbrev pub waits : SpaceId → Bool
  waits space = same_space space Data && not variables.is_handshake_confirmed

  -- a probe timeout after the last ack-eliciting packet was sent, if one is tracked; or after a packet began to wait
  -- for room in the window, which the peer may be unable to make before it gets that packet
  abbrev pub probe_in : SpaceId → Space P M → Option (ℕ × Due)
  probe_in space here = option_map (λ start. (behind start (pto_of recovery variables space), Probes space))
      (probe_start_of (has_eliciting (packets_of here)) (waiting_since variables space)
      here.time_of_last_ack_eliciting_packet)

  abbrev pub probe_due : SpaceId → Option (ℕ × Due)
  probe_due space = if waits space then None else option_and_then (probe_in space) (space_in recovery space)

  -- the space of the anti-deadlock probe: Handshake, if it has keys and is not discarded, else Initial (RFC 9002,
  -- 6.2.2.1)
  abbrev pub deadlock_space : SpaceId
  deadlock_space = if variables.has_handshake_keys && not (is_discarded Handshake recovery.discarded)
      then Handshake else Initial

  -- a space tracks an ack-eliciting packet
  abbrev pub tracks_eliciting : SpaceId → Bool
  tracks_eliciting space =
      option_map_or (λ here. has_eliciting (packets_of here)) (space_in recovery space) false

  -- A probe timeout after the anti-deadlock timer was started, at a client that does not know its address validated: it
  -- may wait for a server that must not send (RFC 9002, 6.2.2.1).
  abbrev pub deadlock_due : Option (ℕ × Due)
  deadlock_due = if is_address_validated variables || is_discarded deadlock_space recovery.discarded then None
      else Some (behind variables.base (pto_of recovery variables deadlock_space), AntiDeadlock deadlock_space)

  -- probes are due, and a deadlock is to be ended, while the path in use may send a datagram (RFC 9000, 8.1; RFC 9002,
  -- 6.2.2.1)
  abbrev pub probes_due : Option (ℕ × Due)
  probes_due = if is_blocked recovery.paths.current.state least_datagram then None
      else option_or (soonest probe_due) deadlock_due

  -- the losses of a space come first (RFC 9002, A.8: SetLossDetectionTimer)
  abbrev pub due_of : Option (ℕ × Due)
  due_of = option_or (soonest (loss_due recovery)) probes_due

  -- losses or probes may be due in a space
  abbrev pub competes : SpaceId → Bool
  competes space =
      option_map_or (λ here. is_some here.loss_time || has_eliciting (packets_of here)) (space_in recovery space) false

  -- The probe timeout of 1-RTT packets, if no loss and no probe of another space may be due. So it is after the
  -- handshake, while no packet is suspected lost and the path in use may send a datagram.
  abbrev pub only_pto : Option ℕ
  only_pto = if competes Initial || competes Handshake then None
      else option_and_then (λ here. if is_some here.loss_time || is_blocked recovery.paths.current.state least_datagram
      || not variables.is_handshake_confirmed then None else Some (pto_of recovery variables Data))
      (space_in recovery Data)

  -- if a probe timeout is known, it is this one
  abbrev pub IsOnlyPto : Option ℕ → Type 0
  IsOnlyPto known = (pto : ℕ) → known ≡ Some pto → only_pto ≡ Some pto

  -- the timer is set to what is due
  abbrev pub TimerIsSet : Type 0
  TimerIsSet = moment LossDetection recovery.timers ≡ option_map (λ due. due.0) due_of
