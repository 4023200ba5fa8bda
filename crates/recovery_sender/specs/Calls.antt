-- The calls other than ACK frames and losses, by the state before them (RFC 9002, A.5, A.9 and A.11).
use Rattle.std.specs.Prelude.{◌≡◌, ◌<◌, ℕ, ◌+◌, ◌-◌, ◌||◌, ◌&&◌, not, nat_lt, nat_le, Decides, Bool, true, false, Option, None, Some, Result, Ok, Err, List, [], ◌∷◌, if◌then◌else◌}
use Rattle.std.specs.Option.{option_and_then}
use Rattle.recovery_base.specs.declared.below.SpaceId.{SpaceId}
use Rattle.recovery_base.specs.declared.timer.Timer.TheVariants.{LossDetection}
use Rattle.recovery_acks.specs.Acks.{CanSend}
use Rattle.recovery_base.specs.Spaces.{same_space}
use Rattle.recovery_base.specs.Units.{u64_limit}
use Rattle.recovery_congestion.specs.Controllers.{ControllerSemantics}
use Rattle.recovery_events.specs.declared.event.Answer.{Answer}
use Rattle.recovery_events.specs.declared.event.Answer.TheVariants as answers
use Rattle.recovery_events.specs.declared.event.Event.{Event}
use Rattle.recovery_events.specs.declared.event.Event.TheVariants as events
use Rattle.recovery_events.specs.declared.event.Refusal.TheVariants.{NoMemory, SpaceDiscarded, Overflow}
use Rattle.rand_core.specs.Stream.{Stream}
use Rattle.recovery_spaces.specs.Discarded.{is_discarded}
use Rattle.recovery_spaces.specs.Paths.{counters_of}
use Rattle.recovery_spaces.specs.Spaces.{Space}
use Rattle.recovery_paths.specs.PathLog.{paths_marks}
use Rattle.recovery_paths.specs.PathStates.{PathMarks, is_blocked, path_delay}
use Rattle.recovery_history.specs.declared.config.RecoveryConfig.{RecoveryConfig}
use Rattle.recovery_history.specs.CallerState.{AreMarksFresh, HasNoLossTime}
use Rattle.recovery_history.specs.History.{Reply, begins, queue_model}
use Rattle.recovery_history.specs.RecoveryState.{RecoveryState}
use Rattle.recovery_history.specs.Reachability.{ReachedBy}
use Rattle.recovery_sender.specs.declared.sender.SenderError.{SenderError}
use Rattle.recovery_sender.specs.declared.sender.SenderError.TheVariants as refused
use Rattle.recovery_sender.specs.declared.sender.Sender.{Sender}
use Rattle.recovery_sender.specs.declared.sender.packets.Transmission.{Transmission}
use Rattle.recovery_sender.specs.declared.sender.packets.Transmission.TheVariants.{Transmitted, Blocked, Full, Delayed}
use Rattle.recovery_losses.specs.declared.variables.Side.{Side}
use Rattle.recovery_losses.specs.declared.due.Due.{Due}
use Rattle.recovery_losses.specs.declared.due.Due.TheVariants.{Losses, Probes, AntiDeadlock}
use Rattle.recovery_losses.specs.declared.variables.Variables.{Variables}
use Rattle.recovery_losses.specs.Variables.{based, found_full, found_room, fresh, is_server, is_probe_due, probed, thresholds_of}
use Rattle.recovery_losses.specs.declared.thresholds.Thresholds.{Thresholds}
use Rattle.recovery_sender.specs.PathChanges.{IsFailedEvent, IsPathPermitted, is_decided, path_steps}
use Rattle.recovery_sender.specs.Promises.KeepsValidated.{KeepsValidated}
use Rattle.recovery_sender.specs.Senders.{state_in}
use Rattle.recovery_sender.specs.Spaces.{space_in}
use Rattle.recovery_base.specs.declared.below.SpaceId.TheVariants.{Initial, Handshake, Data}
use Rattle.recovery_sender.specs.Losses.{IsNextLoss}
use Rattle.recovery_sender.specs.Steps.{SenderStep, loss_time, told, TakesSteps, CompletesCall}
use Rattle.recovery_sender.specs.Timer.{due_of}

-- window and pacer are checked for what counts in flight, if no probe is due in the space (RFC 9002, 7.5 and 7.7)
abbrev pub is_checked : Variables → SpaceId → Bool → Bool
is_checked variables space in_flight = in_flight && not (is_probe_due variables space)

-- the marks of the path in use with this outstanding challenge, and whether one is to be sent (RFC 9000, 8.2.1)
abbrev pub challenged : {K P M : Type 0} → RecoveryState K P M → Option ℕ → Bool → PathMarks
challenged recovery challenge pending =
    record recovery.paths.current.marks { challenge = challenge; challenge_pending = pending }

-- ---- whether a datagram may be sent (RFC 9002, 7; RFC 9000, 8.1)

-- an ACK of the space is required at once (RFC 9000, 13.2.1)
abbrev pub IsAckRequired : {K P M : Type 0} → RecoveryState K P M → SpaceId → Type 0
IsAckRequired {K} {P} {M} recovery space =
    (here : Space P M) × (space_in recovery space ≡ Some here) × CanSend here.pending_acks

-- it may, unless the pacer delays it (RFC 9002, 7.7)
abbrev pub paced_to : Bool → Option ℕ → Transmission
paced_to ack None = Transmitted
paced_to ack (Some until) = Delayed until ack

module _ {K P M : Type 0} (recovery : RecoveryState K P M) where
  -- the bytes in flight on the path in use (RFC 9002, B.2)
  abbrev pub bytes_in_flight : ℕ
  bytes_in_flight = (counters_of recovery.paths.current.ledger).bytes

module _ {K P M : Type 0} (words : ControllerSemantics K) (recovery : RecoveryState K P M) where
  -- how many bytes may be in flight on the path in use (RFC 9002, 7)
  abbrev pub window_of : ℕ
  window_of = words.window recovery.paths.current.state.controller

  -- the window has no room for `bytes` more
  abbrev pub is_full : ℕ → Bool
  is_full bytes = nat_lt window_of (bytes_in_flight recovery + bytes)

  -- The amplification limit is checked first, then the window, then the pacer. A datagram that must wait for one of
  -- these two reports whether an ACK is required, which need not wait (RFC 9002, 7 and 7.7).
  abbrev pub transmission : ℕ → ℕ → (checked ack : Bool) → Transmission
  transmission now bytes checked ack =
      let path = recovery.paths.current.state in
      if is_blocked path bytes then Blocked
      else if checked then (if is_full bytes then Full ack else paced_to ack (path_delay words now bytes path))
      else Transmitted

  -- errors: first a discarded space, then bytes that exceed the total of the path
  abbrev pub transmit_reply : Variables → ℕ → ℕ → SpaceId → (in_flight ack : Bool) → Result Transmission SenderError
  transmit_reply variables now bytes space in_flight ack =
      if is_discarded space recovery.discarded then Err (refused.Event SpaceDiscarded)
      else if nat_lt (recovery.paths.current.state.total_sent + bytes) u64_limit
      then Ok (transmission now bytes (is_checked variables space in_flight) ack)
      else Err (refused.Event Overflow)

  -- the reply, by whether an ACK is required
  abbrev pub IsTransmissionReply : Variables → ℕ → ℕ → SpaceId → Bool → Result Transmission SenderError → Type 0
  IsTransmissionReply variables now bytes space in_flight reply = (ack : Bool)
      × Decides ack (IsAckRequired recovery space)
      × (reply ≡ transmit_reply variables now bytes space in_flight ack)

-- the recovery takes an event for what limit and window permit
abbrev pub transmit_steps : {Q S M P : Type 0} → ℕ → ℕ → Bool → Transmission → List (SenderStep Q S M P)
transmit_steps now bytes checked Transmitted = told (events.Transmit now bytes checked) (Ok answers.Transmitted) ∷ []
transmit_steps now bytes checked (Delayed until ack) =
    told (events.Transmit now bytes checked) (Ok (answers.Delayed until)) ∷ []
transmit_steps now bytes checked other = []

-- what does not count in flight may be sent: the space has keys, and the amplification limit permits it (RFC 9000, 8.1)
pub record PermitsAlone {K P M : Type 0} (recovery : RecoveryState K P M) (space : SpaceId) (bytes : ℕ) : Type 0 where
  pub keys : is_discarded space recovery.discarded ≡ false
  pub total : recovery.paths.current.state.total_sent + bytes < u64_limit
  pub limit : is_blocked recovery.paths.current.state bytes ≡ false

-- so it is after a datagram of this size that the window or the pacer holds back: an ACK alone need not wait (RFC 9002,
-- 7 and 7.7)
abbrev pub PermitsAckAlone : {K P M : Type 0} → RecoveryState K P M → SpaceId → ℕ → Transmission → Type 0
PermitsAckAlone recovery space bytes (Full ack) = PermitsAlone recovery space bytes
PermitsAckAlone recovery space bytes (Delayed until ack) = PermitsAlone recovery space bytes
PermitsAckAlone recovery space bytes sent = Unit {0}

-- Whether a packet of the space waits for room in the window: one that counts in flight does since it was first `Full`,
-- and no longer once there was room.
abbrev pub after_transmit : ℕ → SpaceId → (in_flight : Bool) → Transmission → Variables → Variables
after_transmit now space true (Full ack) variables = found_full space now variables
after_transmit now space true Transmitted variables = found_room space variables
after_transmit now space true (Delayed until ack) variables = found_room space variables
after_transmit now space in_flight sent variables = variables

-- ---- calls that are one event

-- a path begins a nanosecond before the event that makes it: a packet sent at the time of the event counts as sent
-- after the start of the controller's recovery period (RFC 9002, 7.3)
abbrev pub backdated : {Q S M P : Type 0} → Event Q S M P → Event Q S M P
backdated (events.NewPath now remote is_fresh) = events.NewPath (now - 1) remote is_fresh
backdated (events.ResetPath now) = events.ResetPath (now - 1)
backdated event = event

-- an event that changes or resets the path in use, and with it the RTT
abbrev pub changes_path : {Q S M P : Type 0} → Event Q S M P → Bool
changes_path (events.NewPath now remote is_fresh) = true
changes_path (events.ResetPath now) = true
changes_path events.RevertPath = true
changes_path event = false

-- the loss times of all spaces are these
abbrev pub renewing : {Q S M P : Type 0} → (SpaceId → Option ℕ) → List (SenderStep Q S M P)
renewing times = loss_time Initial (times Initial) ∷ loss_time Handshake (times Handshake)
    ∷ loss_time Data (times Data) ∷ []

-- when an event is to send what counts in flight
abbrev pub to_send : {Q S M P : Type 0} → Event Q S M P → Option ℕ
to_send (events.Send space now size eliciting largest queue frames) = if nat_lt 0 size then Some now else None
to_send (events.PollMtu now) = Some now
to_send event = None

-- the answer reports a sent packet
abbrev pub goes_out : {Q : Type 0} → Answer Q → Bool
goes_out (answers.Sent number forgotten) = true
goes_out (answers.Probe number size) = true
goes_out answer = false

abbrev pub sent_at : {Q : Type 0} → Option ℕ → Answer Q → Option ℕ
sent_at time answer = if goes_out answer then time else None

-- the space of an ack-eliciting packet, if the event is to send one
abbrev pub elicits_in : {Q S M P : Type 0} → Event Q S M P → Option SpaceId
elicits_in (events.Send space now size eliciting largest queue frames) = if eliciting then Some space else None
elicits_in event = None

-- and if it was sent
abbrev pub sent_in : {Q : Type 0} → Option SpaceId → Answer Q → Option SpaceId
sent_in space answer = if goes_out answer then space else None

-- The variables after an event with this answer. What counts in flight restarts the anti-deadlock timer (RFC 9002,
-- 6.2.2.1). An ack-eliciting packet counts as one of the probes due in its space (6.2.4).
abbrev pub after_event : {Q S M P : Type 0} → Event Q S M P → Answer Q → Variables → Variables
after_event event answer variables =
    probed (sent_in (elicits_in event) answer) (based (sent_at (to_send event) answer) variables)

-- the space of 1-RTT packets is never discarded (RFC 9001, 4.9; RFC 9002, A.11), and no space twice (RFC 9002, 6.4)
abbrev pub discard_reply : {K P M : Type 0} → RecoveryState K P M → SpaceId → Result (Unit {0}) SenderError
discard_reply recovery space =
    if same_space space Data then Err refused.DataSpace
    else if is_discarded space recovery.discarded then Err (refused.Event SpaceDiscarded) else Ok (tt {0})

-- an event that resets the RTT of the path in use
abbrev pub forgets_rtt : {Q S M P : Type 0} → Event Q S M P → Bool
forgets_rtt (events.NewPath now remote is_fresh) = is_fresh
forgets_rtt (events.ResetPath now) = true
forgets_rtt event = false

-- an event that makes a path of which nothing is known
abbrev pub makes_fresh_path : {Q S M P : Type 0} → Event Q S M P → Bool
makes_fresh_path (events.NewPath now remote is_fresh) = is_fresh
makes_fresh_path event = false

-- With the RTT of the path, the initial RTT that the caller set no longer applies. A fresh path begins without backoff:
-- the probe timeouts before were those of another path (RFC 9000, 9.4; RFC 9002, 6.2.1).
abbrev pub on_other_path : {Q S M P : Type 0} → Event Q S M P → Variables → Variables
on_other_path event variables = record variables {
  initial_rtt = (if forgets_rtt event then None else variables.initial_rtt);
  pto_count = (if makes_fresh_path event then 0 else variables.pto_count);
}

-- the loss times are computed again with the RTT of the path in use
pub record RenewsLossTimes {F Q R C K S M P : Type 0} {f : _} {c : _} {q : _} {m : _} {r : _}
    (old new : Sender F Q R C K S M P f c q m r) : Type 0 where
  pub times : SpaceId → Option ℕ
  pub next : (space : SpaceId) → IsNextLoss (state_in old) old.variables space (times space)
  pub goes : TakesSteps (renewing times) old new

-- these variables are stored, the loss times follow from the RTT that they give, and the timer is set
pub record ChangesRtt {F Q R C K S M P : Type 0} {f : _} {c : _} {q : _} {m : _} {r : _} (kept : Variables)
    (old new : Sender F Q R C K S M P f c q m r) : Type 0 where
  pub set : Sender F Q R C K S M P f c q m r
  pub renewed : Sender F Q R C K S M P f c q m r
  pub same : state_in set ≡ state_in old
  pub variables : set.variables ≡ kept
  pub renews : RenewsLossTimes set renewed
  pub does : CompletesCall [] kept renewed new

module _ {F Q R C K S M P : Type 0} {f : _} {c : _} {q : _} {m : _} {r : _} (event : Event Q S M P)
    (old new : Sender F Q R C K S M P f c q m r) where
  -- the path in use is another, or is reset: the loss times follow from its RTT, and a validated path is kept
  pub record ChangesPath (answer : Answer Q) : Type 0 where
    pub between : Sender F Q R C K S M P f c q m r
    pub permitted : IsPathPermitted event (state_in old)
    pub goes : TakesSteps (path_steps (state_in old) old.variables.side event answer) old between
    pub renews : ChangesRtt (on_other_path event between.variables) between new
    pub keeps : KeepsValidated old new event

  abbrev pub PathEventResult : Result (Answer Q) SenderError → Type 0
  PathEventResult (Ok answer) = ChangesPath answer
  PathEventResult (Err (refused.Event refusal)) = IsFailedEvent event old new refusal (is_decided event (state_in old))
  PathEventResult (Err other) = ⊥

module _ {F Q R C K S M P : Type 0} {f : _} {c : _} {q : _} {m : _} {r : _} (event : Event Q S M P)
    (old new : Sender F Q R C K S M P f c q m r) where
  -- the event has this answer, and the timer is set; if the event changes the path in use, the loss times are computed
  -- again
  abbrev pub IsAnsweredEvent : Answer Q → Bool → Type 0
  IsAnsweredEvent answer true = ChangesPath event old new answer
  IsAnsweredEvent answer false =
      CompletesCall (told event (Ok answer) ∷ []) (after_event event answer old.variables) old new

  -- or the event fails with this error, and the rest is unchanged
  abbrev pub IsEventResult : Result (Answer Q) SenderError → Type 0
  IsEventResult (Ok answer) = IsAnsweredEvent answer (changes_path event)
  IsEventResult (Err (refused.Event refusal)) = IsFailedEvent event old new refusal (is_decided event (state_in old))
  IsEventResult (Err other) = ⊥

-- this holds for an event that passes, as it takes effect
abbrev pub EventResult : {F Q R C K S M P : Type 0} {f : _} {c : _} {q : _} {m : _} {r : _} → Event Q S M P
    → Sender F Q R C K S M P f c q m r → Sender F Q R C K S M P f c q m r → Result (Answer Q) SenderError → Type 0
EventResult event = IsEventResult (backdated event)

-- ---- events that pass

-- all events except those that the sender itself makes: acknowledgements, losses, congestion, probes, transmissions,
-- discarded spaces, and the loss detection timer
abbrev pub IsPassedThrough : {Q S M P : Type 0} → Event Q S M P → Type 0
IsPassedThrough (events.Acked space now number app_limited) = ⊥
IsPassedThrough (events.Lost space number) = ⊥
IsPassedThrough (events.LossesDone now) = ⊥
IsPassedThrough (events.Sample delay rtt) = ⊥
IsPassedThrough (events.EndAcks now app_limited largest) = ⊥
IsPassedThrough (events.Congestion now sent persistent bytes) = ⊥
IsPassedThrough (events.Ecn space newly counts) = ⊥
IsPassedThrough (events.QueueProbe space immediate streams) = ⊥
IsPassedThrough (events.Transmit now bytes checked) = ⊥
IsPassedThrough (events.DiscardSpace space) = ⊥
IsPassedThrough (events.SetTimer LossDetection time) = ⊥
IsPassedThrough (events.StopTimer LossDetection) = ⊥
IsPassedThrough event = Unit {0}

-- `Overflow` if the total of received bytes on the path in use has no room for `bytes` (RFC 9000, 8.1)
abbrev pub datagram_reply : {K P M : Type 0} → RecoveryState K P M → ℕ → Result (Unit {0}) SenderError
datagram_reply recovery bytes =
    if nat_lt (recovery.paths.current.state.total_recvd + bytes) u64_limit then Ok (tt {0})
    else Err (refused.Event Overflow)

-- ---- probes (RFC 9002, 6.2.4 and A.9)

-- done or the error, whatever the answer is
abbrev pub done_of : {Q : Type 0} → Reply Q → Result (Unit {0}) SenderError
done_of (Ok answer) = Ok (tt {0})
done_of (Err refusal) = Err (refused.Event refusal)

-- the space of what is due
abbrev pub space_due : Due → SpaceId
space_due (Losses space) = space
space_due (Probes space) = space
space_due (AntiDeadlock space) = space

-- what is due now, if anything
abbrev pub due_now : {K P M : Type 0} → ℕ → RecoveryState K P M → Variables → Option Due
due_now now recovery variables =
    option_and_then (λ due. if nat_le due.0 now then Some due.1 else None) (due_of recovery variables)

module _ {F Q R C K S M P : Type 0} {f : _} {c : _} {q : _} {m : _} {r : _} (space : SpaceId) (immediate : Bool)
    (streams : S) (old new : Sender F Q R C K S M P f c q m r) where
  -- contents for a probe are queued, or allocation fails
  abbrev pub QueuesProbe : Result (Unit {0}) SenderError → Type 0
  QueuesProbe (Ok done) =
      (answer : Answer Q) × TakesSteps (told (events.QueueProbe space immediate streams) (Ok answer) ∷ []) old new
  QueuesProbe (Err (refused.Event NoMemory)) =
      TakesSteps (told (events.QueueProbe space immediate streams) (Err NoMemory) ∷ []) old new
  QueuesProbe (Err other) = ⊥

  -- The contents of a probe: what is queued in the space, or else the contents of the first packet that has any. Or the
  -- call fails for a discarded space or for want of memory, and nothing changes.
  abbrev pub ProbeResult : Result Q SenderError → Type 0
  ProbeResult (Ok queue) = (is_discarded space (state_in old).discarded ≡ false) × (answer : Answer Q)
      × CompletesCall (told (events.QueueProbe space immediate streams) (Ok answer)
      ∷ told (events.TakePending space) (Ok (answers.Queue queue)) ∷ []) old.variables old new
  ProbeResult (Err (refused.Event SpaceDiscarded)) =
      (is_discarded space (state_in old).discarded ≡ true) × (new ≡ old)
  ProbeResult (Err (refused.Event NoMemory)) = (is_discarded space (state_in old).discarded ≡ false)
      × TakesSteps (told (events.QueueProbe space immediate streams) (Err NoMemory) ∷ []) old new
  ProbeResult (Err other) = ⊥

-- ---- new senders

-- the address of a client's first path is validated: the amplification limit applies to servers (RFC 9000, 8.1)
abbrev pub config_of : {F : Type 0} → Side → RecoveryConfig F → RecoveryConfig F
config_of side config = record config { validated = config.validated || not (is_server side) }

-- the thresholds of loss detection that settings give (RFC 9002, 6.1 and 7.6.1)
abbrev pub thresholds_in : {F : Type 0} → RecoveryConfig F → Thresholds
thresholds_in config = let transport = config.transport in
    thresholds_of transport.packet_threshold transport.time_threshold transport.persistent_congestion_threshold

module _ {F Q R C K S M P : Type 0} {f : _} {c : _} {q : _} {m : _} {r : _} where
  -- its recovery is made with these settings, a nanosecond earlier (RFC 9002, 7.3), without events, marks or loss
  -- times; then the timer is set
  pub record IsNewSender (side : Side) (config : RecoveryConfig F) (start : ℕ) (random : Stream)
      (new : Sender F Q R C K S M P f c q m r) : Type 0 where
    pub made : Sender F Q R C K S M P f c q m r
    pub came : ReachedBy (begins f.built c.words (queue_model q.contents q.words q.blank) (config_of side config)
        (start - 1) random) [] (state_in made)
    pub marks : AreMarksFresh (paths_marks (state_in made).paths)
    pub loss_times : HasNoLossTime (state_in made).spaces
    pub does : CompletesCall [] (fresh side (thresholds_in config) start) made new
