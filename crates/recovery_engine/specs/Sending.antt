-- The result of a sender's call, in numbers.
use Rattle.std.specs.Prelude.{◌≡◌, ◌⊎◌, ℕ, ◌+◌, ◌<◌, ◌≤◌, ◌||◌, not, Bool, true, false, List, [], length, map, Option, None, Some, is_some, Result, Ok, Err, IfOk, OnOk, OnErr, ◌∷◌}
use Rattle.std.specs.Option.{option_map_or}
use Rattle.std.specs.Vec.{vec_capacity}
use Rattle.recovery_base.specs.declared.below.SpaceId.{SpaceId}
use Rattle.recovery_events.specs.declared.event.Answer.TheVariants.{Done}
use Rattle.recovery_events.specs.declared.event.Event.TheVariants.{DiscardSpace}
use Rattle.recovery_spaces.specs.Packets.{Packets}
use Rattle.recovery_sender.specs.RetransmitAll.{DeclaresAllLost}
use Rattle.recovery_sender.specs.Acking.{AckResult, IsAckAcceptable}
use Rattle.recovery_losses.specs.Variables.{begun_anew, is_probe_due}
use Rattle.recovery_sender.specs.Calls.{ChangesRtt, PermitsAckAlone, after_transmit, bytes_in_flight, challenged, discard_reply, is_checked, transmit_steps, window_of, IsTransmissionReply, ProbeResult}
use Rattle.recovery_sender.specs.Senders.{state_in}
use Rattle.recovery_sender.specs.Spaces.{packets_in}
use Rattle.recovery_sender.specs.Steps as Steps
use Rattle.recovery_sender.specs.Steps.{CompletesCall, marked}
use Rattle.recovery_sender.specs.Timeouts.{TimeoutResult}
use Rattle.recovery_sender.specs.declared.sender.acks.Acknowledged.{Acknowledged}
use Rattle.recovery_sender.specs.declared.sender.acks.EcnOutcome.{EcnOutcome}
use Rattle.recovery_sender.specs.declared.sender.acks.EcnOutcome.TheVariants.{Quiet, Marked, Failed}
use Rattle.recovery_sender.specs.declared.sender.acks.NewlyAcked.{NewlyAcked}
use Rattle.recovery_sender.specs.declared.sender.ends.Retransmitted.{Retransmitted}
use Rattle.recovery_sender.specs.declared.sender.losses.Losses.{Losses}
use Rattle.recovery_sender.specs.declared.sender.packets.Transmission.{Transmission}
use Rattle.recovery_sender.specs.declared.sender.packets.Transmission.TheVariants.{Transmitted, Blocked, Full, Delayed}
use Rattle.recovery_sender.specs.declared.sender.probes.Timeout.{Timeout}
use Rattle.recovery_sender.specs.declared.sender.probes.Timeout.TheVariants.{Nothing, Lost, Probe}
use Rattle.recovery_sender.specs.declared.sender.SenderError.{SenderError}
use Rattle.recovery_sender.specs.declared.sender.SenderError.TheVariants as refused
use Rattle.recovery_losses.specs.declared.variables.Variables.{Variables}
use Rattle.recovery_engine.specs.Controllers.{chosen_words}
use Rattle.recovery_engine.specs.Kept.{packets_listed, HasLossesOnly}
use Rattle.recovery_engine.specs.Replies.{no_memory, no_sender, plain, refusal_spelled, space_number}
use Rattle.recovery_engine.specs.declared.kept.Engine.{Engine}
use Rattle.recovery_engine.specs.declared.kept.Engine.TheVariants.{Alone, Sends}
use Rattle.recovery_engine.specs.declared.numbers.TheConstants.{ANSWER_ACKNOWLEDGED, ANSWER_BLOCKED, ANSWER_DELAYED, ANSWER_DONE, ANSWER_FULL, ANSWER_LOSSES, ANSWER_NEEDS_ROOM, ANSWER_NOTHING, ANSWER_PROBES, ANSWER_REFUSED, ANSWER_TRANSMITTED, ECN_FAILED, ECN_MARKED, ECN_QUIET, REFUSAL_DATA_SPACE, REFUSAL_UNSENT}
use Rattle.recovery_engine.specs.declared.sending.AckRange.{AckRange}
use Rattle.recovery_engine.specs.declared.sending.AckRoom.{AckRoom}
use Rattle.recovery_engine.specs.declared.sending.Call.{Call}
use Rattle.recovery_engine.specs.declared.sending.Call.TheVariants.{Transmit, TakeAck, Expire, Discard, RetransmitAll, HandshakeKeys, HandshakeConfirmed, PeerDelay, InitialRtt, Challenge}
use Rattle.recovery_engine.specs.declared.sending.Sending.{Sending}
use Rattle.recovery_engine.specs.declared.sending.LastOutcome.{LastOutcome}
use Rattle.recovery_engine.specs.declared.sending.TakenAck.{TakenAck}
use Rattle.recovery_engine.specs.declared.sending.OutcomeView.{OutcomeView}
use Rattle.recovery_engine.specs.declared.spelling.EncodedReply.{EncodedReply}

-- ---- answers in numbers

abbrev pub refused_spelled : SenderError → EncodedReply
refused_spelled (refused.Event refusal) = refusal_spelled refusal
refused_spelled refused.Unsent = record (plain ANSWER_REFUSED) { refusal = REFUSAL_UNSENT }
refused_spelled refused.DataSpace = record (plain ANSWER_REFUSED) { refusal = REFUSAL_DATA_SPACE }

abbrev pub spelled_by : {T : Type 0} → (T → EncodedReply) → Result T SenderError → EncodedReply
spelled_by spell (Ok answer) = spell answer
spelled_by spell (Err refusal) = refused_spelled refusal

abbrev pub transmission_spelled : Transmission → EncodedReply
transmission_spelled Transmitted = plain ANSWER_TRANSMITTED
transmission_spelled Blocked = plain ANSWER_BLOCKED
transmission_spelled (Full ack) = record (plain ANSWER_FULL) { flag = ack }
transmission_spelled (Delayed until ack) = record (plain ANSWER_DELAYED) { flag = ack; first = until }

abbrev pub losses_spelled : SpaceId → EncodedReply
losses_spelled space = record (plain ANSWER_LOSSES) { first = space_number space }

abbrev pub timeout_spelled : Timeout → EncodedReply
timeout_spelled Nothing = plain ANSWER_NOTHING
timeout_spelled (Lost space losses) = losses_spelled space
timeout_spelled (Probe space count) = record (plain ANSWER_PROBES) { first = space_number space; second = count }

-- a frame: how many numbers are newly acknowledged, how many lost, and whether the outcome has more than these
abbrev pub is_quiet : EcnOutcome → Bool
is_quiet Quiet = true
is_quiet end = false

abbrev pub tells_more : Acknowledged → Bool
tells_more told = is_some told.losses.probe || is_some told.losses.congestion || told.losses.is_black_hole
    || told.losses.is_cut || not (is_quiet told.ecn)

abbrev pub acknowledged_spelled : Acknowledged → EncodedReply
acknowledged_spelled told = record (plain ANSWER_ACKNOWLEDGED) {
  first = length told.numbers.items;
  second = length told.losses.numbers.items;
  flag = tells_more told;
}

-- ---- the result of a call

-- a datagram may be sent, or not (RFC 9002, 7; RFC 9000, 8.1)
pub record TransmitReply (now bytes : ℕ) (space : SpaceId) (in_flight : Bool) (old : Sending) (spelling : EncodedReply)
    (new : Sending) : Type 0 where
  pub reply : Result Transmission SenderError
  pub is : IsTransmissionReply chosen_words (state_in old.sender) old.sender.variables now bytes space in_flight reply
  pub window : reply ≡ Ok Transmitted → in_flight ≡ true
      → is_probe_due old.sender.variables space ≡ false
      → bytes_in_flight (state_in old.sender) + bytes ≤ window_of chosen_words (state_in old.sender)
  pub steps : IfOk reply (λ sent. let checked = is_checked old.sender.variables space in_flight in
      CompletesCall (transmit_steps now bytes checked sent)
      (after_transmit now space in_flight sent old.sender.variables) old.sender new.sender)
  -- if it has to wait, an ACK alone of its size need not
  pub alone : IfOk reply (λ sent. PermitsAckAlone (state_in new.sender) space bytes sent)
  pub stays : OnErr reply (new.sender ≡ old.sender)
  pub spells : spelling ≡ spelled_by transmission_spelled reply
  pub told : new.told ≡ old.told

-- an ACK frame: its outcome is stored, to be read, with the items of its packets (RFC 9002, A.7)
abbrev pub IsOutcomeOfAck : Packets (List ℕ) (Unit {0}) → Result Acknowledged SenderError → LastOutcome → LastOutcome
    → Type 0
IsOutcomeOfAck packets (Ok acked) old new =
    (new.acked ≡ acked) × (new.packets.items ≡ packets_listed packets acked.numbers.items)
IsOutcomeOfAck packets (Err refusal) old new = new ≡ old

-- the caller has room for the words of these packets, and for all numbers that may be lost then
abbrev pub HasRoomFor : AckRoom → NewlyAcked → List ℕ → Type 0
HasRoomFor room newly packets = (length packets ≤ room.packets) × (vec_capacity newly.lost ≤ room.lost)

-- the sender processes the frame, if there is that room, or rejects it and nothing changes
pub record IsTaken (frame : TakenAck) (ranges : List (ℕ × ℕ)) (old : Sending) (spelling : EncodedReply)
    (new : Sending) : Type 0 where
  pub reply : Result Acknowledged SenderError
  pub comes : AckResult frame.space frame.now ranges frame.ack old.sender new.sender reply
  pub fits : IfOk reply (λ acked. (newly : NewlyAcked) × IsAckAcceptable frame.space ranges old.sender newly
      × HasRoomFor frame.room newly (packets_listed (packets_in (state_in old.sender) frame.space) acked.numbers.items))
  pub spells : spelling ≡ spelled_by acknowledged_spelled reply
  pub told : IsOutcomeOfAck (packets_in (state_in old.sender) frame.space) reply old.told new.told

abbrev pub room_spelled : NewlyAcked → List ℕ → EncodedReply
room_spelled newly packets =
    record (plain ANSWER_NEEDS_ROOM) { first = length packets; second = vec_capacity newly.lost }

-- there is too little room for a valid frame: nothing changes, and the reply states how much is needed
pub record NeedsRoom (frame : TakenAck) (ranges : List (ℕ × ℕ)) (old : Sending) (spelling : EncodedReply)
    (new : Sending) : Type 0 where
  pub newly : NewlyAcked
  pub acceptable : IsAckAcceptable frame.space ranges old.sender newly
  pub lacks : ¬ HasRoomFor frame.room newly
      (packets_listed (packets_in (state_in old.sender) frame.space) newly.numbers.items)
  pub spells : spelling
      ≡ room_spelled newly (packets_listed (packets_in (state_in old.sender) frame.space) newly.numbers.items)
  pub sender : new.sender ≡ old.sender
  pub told : new.told ≡ old.told

abbrev pub AckReply : TakenAck → List (ℕ × ℕ) → Sending → EncodedReply → Sending → Type 0
AckReply frame ranges old spelling new =
    IsTaken frame ranges old spelling new ⊎ NeedsRoom frame ranges old spelling new

-- with its ranges as given, or there is no memory for them
abbrev pub range_given : AckRange → ℕ × ℕ
range_given range = (range.first, range.last)

pub record LacksRangeMemory (given : List AckRange) (old : Sending) (spelling : EncodedReply)
    (new : Sending) : Type 0 where
  pub some : 0 < length given
  pub spells : spelling ≡ no_memory
  pub sender : new.sender ≡ old.sender
  pub told : new.told ≡ old.told

abbrev pub AckFrameReply : TakenAck → List AckRange → Sending → EncodedReply → Sending → Type 0
AckFrameReply frame given old spelling new =
    AckReply frame (map range_given given) old spelling new ⊎ LacksRangeMemory given old spelling new

-- a timeout: the losses that it finds are stored (RFC 9002, A.9)
abbrev pub IsOutcomeOfTimeout : Result Timeout SenderError → LastOutcome → LastOutcome → Type 0
IsOutcomeOfTimeout (Ok (Lost space losses)) old new = HasLossesOnly losses new
IsOutcomeOfTimeout reply old new = new ≡ old

pub record TimeoutReply (now : ℕ) (old : Sending) (spelling : EncodedReply) (new : Sending) : Type 0 where
  pub reply : Result Timeout SenderError
  pub comes : TimeoutResult now old.sender new.sender reply
  pub spells : spelling ≡ spelled_by timeout_spelled reply
  pub told : IsOutcomeOfTimeout reply old.told new.told

-- the contents of a probe, or the error in numbers (RFC 9002, 6.2.4)
abbrev pub probe_given : Result (List ℕ) SenderError → Result (List ℕ) EncodedReply
probe_given (Ok queue) = Ok queue
probe_given (Err refusal) = Err (refused_spelled refusal)

pub record ProbeReply (space : SpaceId) (immediate : Bool) (old : Sending) (given : Result (List ℕ) EncodedReply)
    (new : Sending) : Type 0 where
  pub reply : Result (List ℕ) SenderError
  pub comes : ProbeResult space immediate (tt {0}) old.sender new.sender reply
  pub gives : given ≡ probe_given reply
  pub told : new.told ≡ old.told

-- a space is discarded (RFC 9002, 6.2.2, 6.4 and A.11)
pub record DiscardReply (space : SpaceId) (now : ℕ) (old : Sending) (spelling : EncodedReply)
    (new : Sending) : Type 0 where
  pub reply : Result (Unit {0}) SenderError
  pub is : reply ≡ discard_reply (state_in old.sender) space
  pub steps : OnOk reply (CompletesCall (Steps.told (DiscardSpace space) (Ok Done) ∷ [])
      (begun_anew space now old.sender.variables)
      old.sender new.sender)
  pub stays : OnErr reply (new.sender ≡ old.sender)
  pub spells : spelling ≡ spelled_by (λ done. plain ANSWER_DONE) reply
  pub told : new.told ≡ old.told

-- all packets of a space are declared lost, except if allocation fails: these losses are stored (RFC 9002, 6.3 and 6.4)
abbrev pub lost_alone : Retransmitted → Losses
lost_alone all = record {
  numbers = all.numbers;
  probe = None;
  congestion = None;
  is_persistent = false;
  is_black_hole = false;
  is_cut = all.is_cut;
}

abbrev pub ReportsLost : Result Retransmitted SenderError → LastOutcome → LastOutcome → Type 0
ReportsLost (Ok all) old new = HasLossesOnly (lost_alone all) new
ReportsLost (Err refusal) old new = new ≡ old

pub record RetransmitAllReply (space : SpaceId) (now : ℕ) (old : Sending) (spelling : EncodedReply)
    (new : Sending) : Type 0 where
  pub reply : Result Retransmitted SenderError
  pub comes : DeclaresAllLost space old.sender now new.sender reply
  pub spells : spelling ≡ spelled_by (λ all. plain ANSWER_LOSSES) reply
  pub told : ReportsLost reply old.told new.told

-- the variables change, and the timer is set
pub record UpdatesVariables (change : Variables → Variables) (old : Sending) (spelling : EncodedReply)
    (new : Sending) : Type 0 where
  pub does : CompletesCall [] (change old.sender.variables) old.sender new.sender
  pub spells : spelling ≡ plain ANSWER_DONE
  pub told : new.told ≡ old.told

-- Handshake keys are available (RFC 9002, A.8)
abbrev pub keyed : Variables → Variables
keyed variables = record variables { has_handshake_keys = true }

-- the handshake is confirmed (RFC 9001, 4.1.2)
abbrev pub confirmed : Variables → Variables
confirmed variables = record variables { is_handshake_confirmed = true; is_address_known = true }

-- the peer's max_ack_delay is set (RFC 9000, 18.2)
abbrev pub delayed_by : ℕ → Variables → Variables
delayed_by span variables = record variables { max_ack_delay = span }

-- timers use this RTT before the first sample of the path in use (RFC 9002, 6.2.2)
pub record InitialRttReply (rtt : ℕ) (old : Sending) (spelling : EncodedReply) (new : Sending) : Type 0 where
  pub does : ChangesRtt (record old.sender.variables { initial_rtt = Some rtt }) old.sender new.sender
  pub spells : spelling ≡ plain ANSWER_DONE

-- the outstanding challenge of the path in use is set, if any (RFC 9000, 8.2.1)
pub record ChallengeReply (content : Option ℕ) (pending : Bool) (old : Sending) (spelling : EncodedReply)
    (new : Sending) : Type 0
  where
    pub does : CompletesCall (marked (challenged (state_in old.sender) content pending) ∷ []) old.sender.variables
        old.sender
        new.sender
    pub spells : spelling ≡ plain ANSWER_DONE
    pub told : new.told ≡ old.told

-- a call, with the ranges of an ACK frame as a separate argument
abbrev pub SenderCallReply : Call → List AckRange → Sending → EncodedReply → Sending → Type 0
SenderCallReply (Transmit now bytes space in_flight) given old spelling new =
    TransmitReply now bytes space in_flight old spelling new
SenderCallReply (TakeAck frame) given old spelling new = AckFrameReply frame given old spelling new
SenderCallReply (Expire now) given old spelling new = TimeoutReply now old spelling new
SenderCallReply (Discard space now) given old spelling new = DiscardReply space now old spelling new
SenderCallReply (RetransmitAll space now) given old spelling new = RetransmitAllReply space now old spelling new
SenderCallReply HandshakeKeys given old spelling new = UpdatesVariables keyed old spelling new
SenderCallReply HandshakeConfirmed given old spelling new = UpdatesVariables confirmed old spelling new
SenderCallReply (PeerDelay span) given old spelling new = UpdatesVariables (delayed_by span) old spelling new
SenderCallReply (InitialRtt rtt) given old spelling new = InitialRttReply rtt old spelling new
SenderCallReply (Challenge challenge pending) given old spelling new = ChallengeReply challenge pending old spelling new

-- ---- an engine

-- a bare recovery rejects a call of a sender, and is unchanged
abbrev pub UnlessNoSender : Call → List AckRange → Engine → EncodedReply → Engine → Type 0
UnlessNoSender call given (Alone old) spelling new = (spelling ≡ no_sender) × (new ≡ Alone old)
UnlessNoSender call given (Sends old) spelling (Sends new) = SenderCallReply call given old spelling new
UnlessNoSender call given (Sends old) spelling (Alone new) = ⊥

-- and a probe
abbrev pub ProbeUnlessNoSender : SpaceId → Bool → Engine → Result (List ℕ) EncodedReply → Engine → Type 0
ProbeUnlessNoSender space immediate (Alone old) given new = (given ≡ Err no_sender) × (new ≡ Alone old)
ProbeUnlessNoSender space immediate (Sends old) given (Sends new) = ProbeReply space immediate old given new
ProbeUnlessNoSender space immediate (Sends old) given (Alone new) = ⊥

-- ---- the last outcome, in numbers

abbrev pub ecn_number : EcnOutcome → ℕ
ecn_number Quiet = ECN_QUIET
ecn_number Marked = ECN_MARKED
ecn_number Failed = ECN_FAILED

abbrev pub told_shown : Acknowledged → OutcomeView
told_shown told = record {
  acked = length told.numbers.items;
  lost = length told.losses.numbers.items;
  probe = option_map_or (λ number. number) told.losses.probe 0;
  congestion = option_map_or (λ bytes. bytes) told.losses.congestion 0;
  ecn = ecn_number told.ecn;
  has_probe = is_some told.losses.probe;
  has_congestion = is_some told.losses.congestion;
  is_persistent = told.losses.is_persistent;
  is_black_hole = told.losses.is_black_hole;
  is_cut = told.losses.is_cut;
}

abbrev pub no_told : OutcomeView
no_told = record {
  acked = 0;
  lost = 0;
  probe = 0;
  congestion = 0;
  ecn = ECN_QUIET;
  has_probe = false;
  has_congestion = false;
  is_persistent = false;
  is_black_hole = false;
  is_cut = false;
}

abbrev pub told_view : Engine → OutcomeView
told_view (Alone recovery) = no_told
told_view (Sends sending) = told_shown sending.told.acked
