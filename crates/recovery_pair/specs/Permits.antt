-- A datagram is sent or held back as the sender says of it (`transmit`; RFC 9000, 8.1; RFC 9002, 7). An ACK that is
-- required is never withheld for the window or the pacer (RFC 9000, 13.2.1).
use Rattle.std.specs.Prelude.{◌≡◌, ◌⊎◌, ℕ, ◌+◌, ◌≤◌, Bool, true, false, Option, None, Some, Result, Ok, Err, if◌then◌else◌}
use Rattle.recovery_base.specs.declared.below.SpaceId.{SpaceId}
use Rattle.recovery_base.specs.declared.below.SpaceId.TheVariants.{Data}
use Rattle.recovery_base.specs.Spaces.{same_space}
use Rattle.recovery_events.specs.declared.event.Refusal.TheVariants.{NoMemory}
use Rattle.recovery_losses.specs.Variables.{is_probe_due, since_in}
use Rattle.recovery_spaces.specs.Discarded.{is_discarded}
use Rattle.recovery_spaces.specs.Spaces.{space_of}
use Rattle.recovery_sender.specs.Calls.{bytes_in_flight, is_checked, window_of, IsTransmissionReply}
use Rattle.recovery_sender.specs.Senders.{state_in}
use Rattle.recovery_sender.specs.declared.sender.Sender.{Sender}
use Rattle.recovery_sender.specs.declared.sender.SenderError.{SenderError}
use Rattle.recovery_sender.specs.declared.sender.SenderError.TheVariants.{Event}
use Rattle.recovery_sender.specs.declared.sender.packets.Transmission.{Transmission}
use Rattle.recovery_sender.specs.declared.sender.packets.Transmission.TheVariants.{Delayed, Full, Transmitted}
use Rattle.recovery_pair.specs.declared.calls.Permission.{Permission}
use Rattle.recovery_pair.specs.declared.calls.Permission.TheVariants.{AckAlone, Whole}
use Rattle.recovery_pair.specs.declared.calls.Permission.TheVariants as permits
use Rattle.recovery_pair.specs.declared.endpoint.Outgoing.{Outgoing}
use Rattle.recovery_pair.specs.declared.endpoint.Outgoing.TheVariants as outgoing
use Rattle.recovery_pair.specs.declared.steps.End.{End}
use Rattle.recovery_pair.specs.declared.steps.End.TheVariants.{Client, Server}
use Rattle.recovery_pair.specs.declared.steps.PairAnswer.{PairAnswer}
use Rattle.recovery_pair.specs.declared.steps.PairAnswer.TheVariants.{Failed, Held, Nothing, Sent}
use Rattle.recovery_pair.specs.declared.steps.PairStep.{PairStep}
use Rattle.recovery_pair.specs.declared.steps.PairStep.TheVariants.{Send}
use Rattle.recovery_pair.specs.Logs.{ack_of}

-- the answer that an outcome gives
abbrev pub answer_of : Result Outgoing SenderError → Result PairAnswer SenderError
answer_of (Ok (outgoing.Sent packet items window)) =
    Ok (Sent packet.number items packet.eliciting window (ack_of packet))
answer_of (Ok (outgoing.Failed refusal)) = Ok (Failed refusal)
answer_of (Ok (outgoing.Held held)) = Ok (Held held)
answer_of (Ok outgoing.Nothing) = Ok Nothing
answer_of (Err refusal) = Err refusal

-- the sender holds a datagram back, and reports that an ACK is required (RFC 9000, 13.2.1)
abbrev pub requires_ack : Transmission → Bool
requires_ack (Full ack) = ack
requires_ack (Delayed until ack) = ack
requires_ack sent = false

-- `Says` is what the sender says of a datagram that counts in flight, or not
module _ (Idle : Type 0) (in_flight : Bool) (checked : Option ℕ)
    (Says : Result Transmission SenderError → Type 0) where
  -- memory ran out, or the sender returned this error for the datagram
  abbrev pub FailsAsSaid : SenderError → Type 0
  FailsAsSaid refusal = (refusal ≡ Event NoMemory) ⊎ Says (Err refusal)

  -- window or pacer hold the datagram back, and an ACK is required: it is sent alone (RFC 9002, 7 and 7.7)
  abbrev pub SendsAckAlone : Type 0
  SendsAckAlone = (held : Transmission) × Says (Ok held) × (requires_ack held ≡ true)

  -- The sender permits each packet that is sent. The answer reports whether the packet counts in flight, and the window
  -- that was checked. If a datagram is held back, a required ACK is sent alone. If none is required, the answer is the
  -- reason that the sender reports. There is nothing to send, or nothing that counts in flight, only if the sender is
  -- idle. There is no other answer.
  abbrev pub AgreesWith : Result PairAnswer SenderError → Type 0
  AgreesWith (Ok (Sent number items eliciting window delay)) =
      (Says (Ok Transmitted) × (eliciting ≡ in_flight) × (window ≡ checked) × (in_flight ≡ false → Idle))
      ⊎ (SendsAckAlone × (eliciting ≡ false) × (window ≡ None))
  AgreesWith (Ok (Failed refusal)) = Says (Ok Transmitted) ⊎ SendsAckAlone
  AgreesWith (Ok (Held held)) = Says (Ok held) × (held ≡ Transmitted → ⊥) × (requires_ack held ≡ false)
  AgreesWith (Ok Nothing) = Idle
  AgreesWith (Ok answer) = ⊥
  AgreesWith (Err refusal) = FailsAsSaid refusal

-- what is permitted, by what the sender says: all, an ACK alone, or nothing
abbrev pub IsPermission : (Says : Result Transmission SenderError → Type 0) → Result Permission SenderError → Type 0
IsPermission Says (Ok Whole) = Says (Ok Transmitted)
IsPermission Says (Ok AckAlone) = (held : Transmission) × Says (Ok held) × (requires_ack held ≡ true)
IsPermission Says (Ok (permits.Held held)) = Says (Ok held) × (held ≡ Transmitted → ⊥) × (requires_ack held ≡ false)
IsPermission Says (Err refusal) = Says (Err refusal)

module _ {F Q R C K S M P : Type 0} {f : _} {c : _} {q : _} {m : _} {r : _} where
  -- a handshake packet that the window holds back waits for room, in a space that has keys
  abbrev pub WaitsFor : SpaceId → Transmission → Sender F Q R C K S M P f c q m r → Type 0
  WaitsFor space (Full ack) sender = same_space space Data ≡ false → (since : ℕ)
      × (since_in space sender.variables.full_since ≡ Some since)
      × (is_discarded space (state_in sender).discarded ≡ false)
  WaitsFor space sent sender = Unit {0}

  abbrev pub WaitsIfHeld : SpaceId → Result Permission SenderError → Sender F Q R C K S M P f c q m r → Type 0
  WaitsIfHeld space (Ok (permits.Held held)) = WaitsFor space held
  WaitsIfHeld space other = λ sender. Unit {0}

  abbrev pub WaitsIfFull : SpaceId → Result Outgoing SenderError → Sender F Q R C K S M P f c q m r → Type 0
  WaitsIfFull space (Ok (outgoing.Held held)) = WaitsFor space held
  WaitsIfFull space outcome = λ sender. Unit {0}

module _ {F Q R C K S M P : Type 0} {f : _} {c : _} {q : _} {m : _} {r : _} where
  -- what a sender says of a datagram that counts in flight, or not
  abbrev pub SaysOf : Sender F Q R C K S M P f c q m r → SpaceId → ℕ → ℕ → Bool → Result Transmission SenderError
      → Type 0
  SaysOf sender space now size in_flight =
      IsTransmissionReply c.words (state_in sender) sender.variables now size space in_flight

  -- the window that is checked for it, if it counts in flight and no probe is due (RFC 9002, 7 and 7.5)
  abbrev pub window_checked : Sender F Q R C K S M P f c q m r → SpaceId → Bool → Option ℕ
  window_checked sender space in_flight =
      if is_checked sender.variables space in_flight then Some (window_of c.words (state_in sender)) else None

  -- it fits into a window that is checked, with what is in flight
  abbrev pub FitsChecked : Sender F Q R C K S M P f c q m r → ℕ → Option ℕ → Type 0
  FitsChecked sender size None = Unit {0}
  FitsChecked sender size (Some window) = bytes_in_flight (state_in sender) + size ≤ window

  -- in a space with keys no probe is due, and no contents of lost packets wait to be sent again (RFC 9000, 13.3)
  abbrev pub IsIdle : Sender F Q R C K S M P f c q m r → SpaceId → Type 0
  IsIdle sender space = is_discarded space (state_in sender).discarded ≡ false
      → (is_probe_due sender.variables space ≡ false)
      × ((space_of space (state_in sender).spaces).pending ≡ q.words.empty)

  abbrev pub PermitsAnswer : SpaceId → ℕ → ℕ → Result PairAnswer SenderError → Sender F Q R C K S M P f c q m r → Type 0
  PermitsAnswer space now size answer sender = (in_flight : Bool)
      × AgreesWith (IsIdle sender space) in_flight (window_checked sender space in_flight) (SaysOf sender space now
      size in_flight) answer

  abbrev pub PermitsOutcome : SpaceId → ℕ → ℕ → Result Outgoing SenderError → Sender F Q R C K S M P f c q m r → Type 0
  PermitsOutcome space now size outcome = PermitsAnswer space now size (answer_of outcome)

  -- of this endpoint
  abbrev pub HoldsAt : End → (Sender F Q R C K S M P f c q m r → Type 0) → Sender F Q R C K S M P f c q m r
      → Sender F Q R C K S M P f c q m r → Type 0
  HoldsAt Client Holds client server = Holds client
  HoldsAt Server Holds client server = Holds server

  -- a datagram is sent only if the sender of its endpoint permits it
  abbrev pub SendsAsPermitted : PairStep → Result PairAnswer SenderError → Sender F Q R C K S M P f c q m r
      → Sender F Q R C K S M P f c q m r → Type 0
  SendsAsPermitted (Send end space now size) answer client server =
      HoldsAt end (PermitsAnswer space now size answer) client server
  SendsAsPermitted step answer client server = Unit {0}
