-- It never stalls (RFC 9002, 6.2 and 6.2.2.1): the loss detection timer is set while an acknowledgement is due.
use Rattle.std.specs.Prelude.{◌≡◌, ◌≢◌, ℕ, ◌+◌, ◌*◌, ◌≤◌, ◌⊎◌, ◌&&◌, ◌||◌, not, max, nat_le, sum_by, Bool, true, false, Option, [], ◌∷◌, None, Some, Ok, if◌then◌else◌}
use Rattle.std.specs.Option.{option_and_then, option_map_or}
use Rattle.recovery_base.specs.declared.below.SpaceId.{SpaceId}
use Rattle.recovery_base.specs.declared.below.SpaceId.TheVariants.{Initial, Handshake, Data}
use Rattle.recovery_base.specs.Spaces.{same_space}
use Rattle.recovery_base.specs.declared.timer.Timer.TheVariants.{LossDetection}
use Rattle.recovery_base.specs.Timers.{moment}
use Rattle.recovery_events.specs.declared.event.Answer.TheVariants.{Sent, Probe}
use Rattle.recovery_events.specs.declared.event.Event.TheVariants.{Send, PollMtu}
use Rattle.recovery_spaces.specs.Discarded.{is_discarded}
use Rattle.recovery_spaces.specs.Spaces.{Space, packets_of}
use Rattle.recovery_paths.specs.declared.path_pair.PathName.TheVariants.{Current}
use Rattle.recovery_paths.specs.PathStates.{amplification_factor, is_blocked}
use Rattle.recovery_history.specs.History.{Beginning, History}
use Rattle.recovery_history.specs.Promises.Datagrams.{bytes_in, bytes_out, datagrams_on, is_validated}
use Rattle.recovery_history.specs.Promises.NewNumbers.{is_discarded as was_discarded}
use Rattle.recovery_history.specs.Promises.Timeouts.{timer_value}
use Rattle.recovery_history.specs.Promises.Tracked.{is_tracked}
use Rattle.recovery_history.specs.RecoveryState.{RecoveryState}
use Rattle.recovery_losses.specs.declared.variables.Variables.{Variables}
use Rattle.recovery_losses.specs.Variables.{is_address_validated, waiting_since}
use Rattle.recovery_sender.specs.Promises.Lost.{elicits_by}
use Rattle.recovery_sender.specs.Spaces.{space_in}
use Rattle.recovery_sender.specs.Timer.{behind, deadlock_space, has_eliciting, least_datagram, pto_of, waits}

-- when the next packet of a space is lost by its age
abbrev pub loss_time_in : {K P M : Type 0} → RecoveryState K P M → SpaceId → Option ℕ
loss_time_in recovery space = option_and_then (λ here. here.loss_time) (space_in recovery space)

-- no packet is suspected lost
abbrev pub HasNoLossDue : {K P M : Type 0} → RecoveryState K P M → Type 0
HasNoLossDue recovery = (space : SpaceId) → loss_time_in recovery space ≡ None

module _ {K P M : Type 0} (recovery : RecoveryState K P M) (variables : Variables) where
  -- the space is not discarded, tracks an ack-eliciting packet, and does not wait for the handshake
  pub record IsAckOwed (space : SpaceId) : Type 0 where
    pub here : Space P M
    pub lives : space_in recovery space ≡ Some here
    pub elicits : has_eliciting (packets_of here) ≡ true
    pub goes : waits recovery variables space ≡ false

  -- The timer is set to the loss time of a space, or for a probe: at most a probe timeout after the last ack-eliciting
  -- packet of the space.
  pub record IsSetFor (space : SpaceId) : Type 0 where
    pub time : ℕ
    pub set : moment LossDetection recovery.timers ≡ Some time
    pub soon : ((lost : SpaceId) × (loss_time_in recovery lost ≡ Some time))
        ⊎ ((sent : ℕ) × (option_and_then (λ here. here.time_of_last_ack_eliciting_packet) (space_in recovery space)
        ≡ Some sent) × (time ≤ behind sent (pto_of recovery variables space)))

  -- The timer is set to the loss time of a space, or for a probe: at most a probe timeout after a packet of the space
  -- began to wait for room in the window, or after its last ack-eliciting packet, if that is later.
  pub record IsSetForWaiting (space : SpaceId) (since : ℕ) (last : Option ℕ) : Type 0 where
    pub time : ℕ
    pub set : moment LossDetection recovery.timers ≡ Some time
    pub soon : ((lost : SpaceId) × (loss_time_in recovery lost ≡ Some time))
        ⊎ (time ≤ behind (max since (option_map_or (λ sent. sent) last 0)) (pto_of recovery variables space))

  -- while the amplification limit permits a datagram (RFC 9000, 8.1)
  pub record NeverStalls : Type 0 where
    pub probes : is_blocked recovery.paths.current.state least_datagram ≡ false → (space : SpaceId) → IsAckOwed space
        → IsSetFor space
    -- it is set while a packet of a handshake space waits for room in the window
    pub waiting : is_blocked recovery.paths.current.state least_datagram ≡ false → (space : SpaceId) (here : Space P M)
        (since : ℕ) → space_in recovery space ≡ Some here → waiting_since variables space ≡ Some since
        → IsSetForWaiting space since here.time_of_last_ack_eliciting_packet
    -- it is set at a client that does not know its address validated, whatever it tracks (RFC 9002, 6.2.2.1)
    pub deadlock : is_blocked recovery.paths.current.state least_datagram ≡ false
        → is_address_validated variables ≡ false
        → is_discarded (deadlock_space recovery variables) recovery.discarded ≡ false
        → moment LossDetection recovery.timers ≢ None

-- when the last ack-eliciting packet of a space was sent, by the events
abbrev pub last_sent_at : {Q S M P : Type 0} → SpaceId → History Q S M P → Option ℕ
last_sent_at space [] = None
last_sent_at space ((Send there now size eliciting largest queue frames, Ok (Sent number forgotten)) ∷ earlier) =
    if same_space there space && eliciting then Some now else last_sent_at space earlier
last_sent_at space ((PollMtu now, Ok (Probe number size)) ∷ earlier) =
    if same_space Data space then Some now else last_sent_at space earlier
last_sent_at space (happened ∷ earlier) = last_sent_at space earlier

module _ {Q S M P : Type 0} (past : History Q S M P) where
  -- an ack-eliciting packet of a space is outstanding: it was sent, and is neither acknowledged nor declared lost,
  -- forgotten or discarded
  abbrev pub IsOutstanding : SpaceId → Type 0
  IsOutstanding space = (was_discarded space past ≡ false)
      × (number : ℕ) × (is_tracked space number past ≡ true) × (elicits_by space past number ≡ true)

  -- the space of a probe against a deadlock (RFC 9002, 6.2.2.1)
  abbrev pub deadlock_space_by : Variables → SpaceId
  deadlock_space_by variables =
      if variables.has_handshake_keys && not (was_discarded Handshake past) then Handshake else Initial

  -- the timer is set to the loss time of a space; or for a probe, at most a probe timeout with its backoff after the
  -- last ack-eliciting packet of the space was sent (RFC 9002, 6.1.2 and 6.2.1)
  pub record IsSetInTime {K : Type 0} (recovery : RecoveryState K P M) (variables : Variables)
      (space : SpaceId) : Type 0 where
    pub time : ℕ
    pub set : timer_value past LossDetection ≡ Some time
    pub soon : ((lost : SpaceId) × (loss_time_in recovery lost ≡ Some time)) ⊎ ((sent : ℕ)
        × (last_sent_at space past ≡ Some sent) × (time ≤ behind sent (pto_of recovery variables space)))

  -- the timer is set to the loss time of a space; or for a probe, at most a probe timeout with its backoff after a
  -- packet of the space began to wait for room, or after its last ack-eliciting packet, if that is later (RFC 9002,
  -- 6.2.1)
  pub record IsSetWhileWaiting {K : Type 0} (recovery : RecoveryState K P M) (variables : Variables)
      (space : SpaceId) (since : ℕ) : Type 0 where
    pub time : ℕ
    pub set : timer_value past LossDetection ≡ Some time
    pub soon : ((lost : SpaceId) × (loss_time_in recovery lost ≡ Some time))
        ⊎ (time ≤ behind (max since (option_map_or (λ sent. sent) (last_sent_at space past) 0))
        (pto_of recovery variables space))

module _ {F K Q S M P : Type 0} (beginning : Beginning F K Q S M P) (past : History Q S M P) where
  -- the amplification limit permits a datagram on the path in use, by the events so far (RFC 9000, 8.1)
  abbrev pub may_send : Bool
  may_send = is_validated beginning.config.validated Current past
      || nat_le (sum_by bytes_out (datagrams_on Current past) + least_datagram)
      (amplification_factor * sum_by bytes_in (datagrams_on Current past))

  -- the loss detection timer, by the events so far (RFC 9002, 6.2.1, 6.2.2.1 and A.8)
  pub record IsTimerByEvents (recovery : RecoveryState K P M) (variables : Variables) : Type 0 where
    -- It is set while an ack-eliciting packet is outstanding. For 1-RTT packets that is so once the handshake is
    -- confirmed.
    pub runs : may_send ≡ true → (space : SpaceId)
        → (same_space space Data && not variables.is_handshake_confirmed) ≡ false → IsOutstanding past space
        → IsSetInTime past recovery variables space
    -- It is set while a packet of a handshake space waits for room in the window.
    pub waiting : may_send ≡ true → (space : SpaceId) (since : ℕ) → was_discarded space past ≡ false
        → waiting_since variables space ≡ Some since → IsSetWhileWaiting past recovery variables space since
    -- It is set at a client that does not know its address validated.
    pub deadlock : may_send ≡ true → was_discarded (deadlock_space_by past variables) past ≡ false
        → is_address_validated variables ≡ false → timer_value past LossDetection ≢ None
    -- It is stopped if no packet is suspected lost, and the amplification limit permits no datagram.
    pub blocked : HasNoLossDue recovery → may_send ≡ false → timer_value past LossDetection ≡ None
    -- It is stopped if no packet is suspected lost, and nothing is outstanding or waits for room at an endpoint that
    -- knows its address validated.
    pub stops : HasNoLossDue recovery → ((space : SpaceId) → IsOutstanding past space → ⊥)
        → ((space : SpaceId) → waiting_since variables space ≡ None)
        → is_address_validated variables ≡ true → timer_value past LossDetection ≡ None
