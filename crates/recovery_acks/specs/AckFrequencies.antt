-- How often the peer is asked to acknowledge, and how often it asks for ACKs (draft-ietf-quic-ack-frequency-04,
-- sections 4 and 7).
use Rattle.std.specs.Prelude.{ℕ, ◌≡◌, ◌≢◌, ◌*◌, ◌<◌, ◌≤◌, ◌⊎◌, min, max, IsSomeAnd, Bool, true, false, Option, None, Some, Result, Ok, Err}
use Rattle.std.specs.Int.{abs_diff}
use lib.Chars.{codes}
use Rattle.recovery_base.specs.declared.below.frames.AckFrequency.{AckFrequency}
use Rattle.recovery_base.specs.declared.below.frames.TransportError.{TransportError}
use Rattle.recovery_base.specs.Errors.{protocol_violation}
use Rattle.recovery_base.specs.Units.{assumed_ack_delay, microseconds, timer_granularity}
use Rattle.recovery_acks.specs.declared.frequency.AckFrequencyState.{AckFrequencyState}
use Rattle.recovery_acks.specs.Acks.{Acks, with_thresholds}

abbrev pub delay_or : Option ℕ → ℕ → ℕ
delay_or None other = other
delay_or (Some delay) other = delay

-- before any frame: none was sent or received, and both endpoints' delay is this one
abbrev pub frequency_made : ℕ → AckFrequencyState
frequency_made delay = record {
  in_flight_ack_frequency_frame = None;
  next_outgoing_sequence_number = 0;
  peer_max_ack_delay = delay;
  last_ack_frequency_frame = None;
  max_ack_delay = delay;
}

-- a smaller RTT counts as this, the default of max_ack_delay (RFC 9000, 18.2): otherwise more ACKs would be requested
-- on a short path than are sent without a request
abbrev pub least_rtt : ℕ
least_rtt = assumed_ack_delay

-- the delay to request: the configured one or else the peer's, at most the RTT, but not below the peer's min_ack_delay
-- in microseconds
abbrev pub candidate_delay : Option ℕ → ℕ → ℕ → Option ℕ → ℕ
candidate_delay configured peer rtt least =
    max (min (delay_or configured peer) (max rtt least_rtt)) (delay_or least 0 * microseconds)

-- the ACK_FREQUENCY frame in flight: the number of its packet, and the max_ack_delay that it requests
abbrev pub pending_of : AckFrequencyState → Option (ℕ × ℕ)
pending_of state = state.in_flight_ack_frequency_frame

-- the number of the next frame
abbrev pub next_of : AckFrequencyState → ℕ
next_of state = state.next_outgoing_sequence_number

abbrev pub with_next : ℕ → AckFrequencyState → AckFrequencyState
with_next number old = record old { next_outgoing_sequence_number = number }

abbrev pub with_pending : ℕ × ℕ → AckFrequencyState → AckFrequencyState
with_pending request old = record old { in_flight_ack_frequency_frame = Some request }

-- the delay requested last
abbrev pub current_delay : Option (ℕ × ℕ) → ℕ → ℕ
current_delay None peer = peer
current_delay (Some request) peer = request.1

-- the longest delay that the peer may use, for which a probe timeout must allow (section 7)
abbrev pub longest_delay : Option (ℕ × ℕ) → ℕ → ℕ
longest_delay None peer = peer
longest_delay (Some request) peer = max peer request.1

-- a request is worth sending: none was made yet, or the wanted delay differs by more than a fifth from the last one
-- requested. A smaller change is not worth a frame, since each sample moves the RTT that the delay follows
abbrev pub IsWorthSending : ℕ → ℕ → ℕ → Type 0
IsWorthSending next desired current = (next ≡ 0) ⊎ (current < 5 * abs_diff desired current)

-- the frame is no newer than the last (section 4)
abbrev pub IsStale : Option ℕ → ℕ → Type 0
IsStale last sequence = IsSomeAnd last (λ newest. sequence ≤ newest)

-- the delay that a frame requests in microseconds
abbrev pub delay_of : AckFrequency → ℕ
delay_of frame = frame.request_max_ack_delay * microseconds

-- a frame that requests less violates the protocol (section 4)
abbrev pub TellsTooSmall : TransportError → Type 0
TellsTooSmall error =
    (error.code ≡ protocol_violation)
    × (error.reason.now ≡ codes "Requested Max Ack Delay in ACK_FREQUENCY frame is less than min_ack_delay")

abbrev pub with_last : ℕ → AckFrequencyState → AckFrequencyState
with_last sequence old = record old { last_ack_frequency_frame = Some sequence }

-- a frame is accepted: its number and its delay
abbrev pub with_request : AckFrequency → AckFrequencyState → AckFrequencyState
with_request frame old =
    record old { last_ack_frequency_frame = Some frame.sequence; max_ack_delay = delay_of frame }

-- a frame was received: a stale one changes nothing; of one that requests too small a delay only the number is stored
abbrev pub FrequencyReceived :
    AckFrequencyState → Acks → AckFrequency → Result Bool TransportError → AckFrequencyState → Acks → Type 0
FrequencyReceived old acks frame (Ok false) new after =
    IsStale old.last_ack_frequency_frame frame.sequence × (new ≡ old) × (after ≡ acks)
FrequencyReceived old acks frame (Ok true) new after =
    (¬ IsStale old.last_ack_frequency_frame frame.sequence) × (timer_granularity ≤ delay_of frame)
    × (new ≡ with_request frame old)
    × (after ≡ with_thresholds frame.ack_eliciting_threshold frame.reordering_threshold acks)
FrequencyReceived old acks frame (Err error) new after =
    (¬ IsStale old.last_ack_frequency_frame frame.sequence) × (delay_of frame < timer_granularity) × TellsTooSmall error
    × (new ≡ with_last frame.sequence old) × (after ≡ acks)

-- if a packet had the frame in flight, the peer uses that delay from its acknowledgement on
abbrev pub AcksPending : ℕ → Option (ℕ × ℕ) → AckFrequencyState → AckFrequencyState → Type 0
AcksPending number None old new = new ≡ old
AcksPending number (Some request) old new =
    ((request.0 ≡ number) × (new ≡ record old { in_flight_ack_frequency_frame = None; peer_max_ack_delay = request.1 }))
    ⊎ ((request.0 ≢ number) × (new ≡ old))

-- the packet of a number was acknowledged
abbrev pub AcksRequest : ℕ → AckFrequencyState → AckFrequencyState → Type 0
AcksRequest number old new = AcksPending number (pending_of old) old new
