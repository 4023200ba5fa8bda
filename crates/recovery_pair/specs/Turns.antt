-- What an end does with its sender at each step.
use Rattle.std.specs.Prelude.{◌≡◌, ℕ, Bool, true, false, List, Option, Result, Ok, Err}
use Rattle.std.specs.Global.{Vec}
use Rattle.recovery_acks.specs.Acks.{delay_at}
use Rattle.recovery_base.specs.declared.below.SpaceId.{SpaceId}
use Rattle.recovery_losses.specs.Frames.{largest_of}
use Rattle.recovery_spaces.specs.Spaces.{acks_of, space_of}
use Rattle.recovery_sender.specs.Senders.{state_in}
use Rattle.recovery_sender.specs.declared.sender.Sender.{Sender}
use Rattle.recovery_sender.specs.declared.sender.SenderError.{SenderError}
use Rattle.recovery_sender.specs.declared.sender.probes.Timeout.{Timeout}
use Rattle.recovery_sender.specs.declared.sender.packets.Transmission.{Transmission}
use Rattle.recovery_sender.specs.declared.sender.packets.Transmission.TheVariants.{Transmitted}
use Rattle.recovery_pair.specs.declared.calls.Permission.{Permission}
use Rattle.recovery_pair.specs.declared.calls.Permission.TheVariants.{AckAlone, Whole}
use Rattle.recovery_pair.specs.declared.endpoint.Outgoing.{Outgoing}
use Rattle.recovery_pair.specs.declared.endpoint.Outgoing.TheVariants as outgoing
use Rattle.recovery_pair.specs.declared.steps.AckOutcome.{AckOutcome}
use Rattle.recovery_pair.specs.declared.steps.End.{End}
use Rattle.recovery_pair.specs.declared.steps.End.TheVariants.{Client, Server}
use Rattle.recovery_pair.specs.declared.steps.Fate.{Fate}
use Rattle.recovery_pair.specs.declared.steps.Fate.TheVariants.{Dropped, Duplicate, New}
use Rattle.recovery_pair.specs.declared.steps.LocalStep.{LocalStep}
use Rattle.recovery_pair.specs.declared.steps.LocalStep.TheVariants as local
use Rattle.recovery_pair.specs.declared.steps.PairAnswer.{PairAnswer}
use Rattle.recovery_pair.specs.declared.steps.PairAnswer.TheVariants as answer
use Rattle.recovery_pair.specs.declared.steps.WirePacket.{WirePacket}
use Rattle.recovery_pair.specs.Carried.{lost_by_ack, lost_by_local}
use Rattle.recovery_pair.specs.Falls.{FindsWithCause}
use Rattle.recovery_pair.specs.Flights.{counted_if, ends_by_timer}
use Rattle.recovery_pair.specs.Frames.{IsSoundFrame}
use Rattle.recovery_pair.specs.LeastWindows.{persists_by_ack, persists_by_timer}
use Rattle.recovery_pair.specs.Permits.{FitsChecked, window_checked}
use Rattle.recovery_pair.specs.Promises.Framed.{HasFrame}
use Rattle.recovery_pair.specs.Newly.{AcksFlightBy}
use Rattle.recovery_pair.specs.Pasts.{AcksWithin, Continues, GoesOn, GoesOnQuietly, HearsNumber, NoAccusation, SampledBy, SendsNumber, SendsWithAck, EndTurn, discarding, ending, endings_by_ack, endings_by_fate, leaving, losing, quiet, validating, with_congestion}

-- a call that may fail
abbrev pub TriesTurn : {F Q R C K S M P : Type 0} {f : _} {c : _} {q : _} {m : _} {r : _} → EndTurn
    → Sender F Q R C K S M P f c q m r → Sender F Q R C K S M P f c q m r → Result (Unit {0}) SenderError → Type 0
TriesTurn turn old new (Ok done) = Continues (GoesOn turn) old new
TriesTurn turn old new (Err refusal) = Continues GoesOnQuietly old new

-- what becomes of a packet that arrives: it is new (`Ok true`), a duplicate (`Ok false`), or dropped
abbrev pub reply_of : Fate → Result Bool SenderError
reply_of (New items acked) = Ok true
reply_of Duplicate = Ok false
reply_of (Dropped refusal) = Err refusal

-- what a step without the network adds
abbrev pub if_done : EndTurn → Result PairAnswer SenderError → EndTurn
if_done turn (Ok answer.Done) = turn
if_done turn other = quiet

abbrev pub local_turn : LocalStep → Result PairAnswer SenderError → EndTurn
local_turn (local.Discard space now) answer = if_done (discarding space) answer
local_turn local.AddressValidated answer = if_done validating answer
local_turn (local.Expire now) answer = ending (losing (ends_by_timer answer))
local_turn step answer = quiet

-- the congestion that is found when the loss detection timer expires
abbrev pub FindsByTimer : {F Q R C K S M P : Type 0} {f : _} {c : _} {q : _} {m : _} {r : _} → LocalStep
    → Result PairAnswer SenderError → Sender F Q R C K S M P f c q m r → Sender F Q R C K S M P f c q m r → Type 0
FindsByTimer (local.Expire now) answer =
    FindsWithCause (persists_by_timer answer) (lost_by_local (local.Expire now) answer) now
    (λ congests. GoesOn (record (local_turn (local.Expire now) answer) { congests = congests }))
FindsByTimer step answer = λ old new. Unit {0}

-- what is declared lost when the loss detection timer expires
abbrev pub timeout_turn : Result Timeout SenderError → EndTurn
timeout_turn (Ok timeout) = ending (losing (ends_by_timer (Ok (answer.Expired timeout))))
timeout_turn (Err refusal) = ending (losing (ends_by_timer (Err refusal)))

-- a datagram that is permitted fits into the window that is checked
abbrev pub FitsIfPermitted : {F Q R C K S M P : Type 0} {f : _} {c : _} {q : _} {m : _} {r : _}
    → Sender F Q R C K S M P f c q m r → SpaceId → ℕ → Bool → Result Transmission SenderError → Type 0
FitsIfPermitted sender space size eliciting (Ok Transmitted) =
    FitsChecked sender size (window_checked sender space eliciting)
FitsIfPermitted sender space size eliciting result = Unit {0}

abbrev pub PermissionFits : {F Q R C K S M P : Type 0} {f : _} {c : _} {q : _} {m : _} {r : _}
    → Sender F Q R C K S M P f c q m r → SpaceId → ℕ → Bool → Result Permission SenderError → Type 0
PermissionFits sender space size eliciting (Ok Whole) =
    FitsChecked sender size (window_checked sender space eliciting)
PermissionFits sender space size eliciting result = Unit {0}

module _ {F Q R C K S M P : Type 0} {f : _} {c : _} {q : _} {m : _} {r : _} (old new : Sender F Q R C K S M P f c q m r)
  where
    -- a datagram is permitted, and counted
    abbrev pub TransmitTurn : ℕ → Result Transmission SenderError → Type 0
    TransmitTurn size (Ok Transmitted) = Continues (GoesOn (leaving size)) old new
    TransmitTurn size other = Continues GoesOnQuietly old new

    -- or a part of it is
    abbrev pub PermissionTurn : ℕ → Result Permission SenderError → Type 0
    PermissionTurn size (Ok Whole) = Continues (GoesOn (leaving size)) old new
    PermissionTurn size (Ok AckAlone) = Continues (GoesOn (leaving size)) old new
    PermissionTurn size other = Continues GoesOnQuietly old new

    -- A packet is sent, with the items that the answer reports, and with an ACK of numbers that were received. With the
    -- bytes in flight it fits into the window that is checked.
    pub record SendsPacket (from : End) (space : SpaceId) (now size : ℕ) (packet : WirePacket) (items : Vec ℕ)
        (window : Option ℕ) : Type 0 where
      pub sender : packet.from ≡ from
      pub there : packet.space ≡ space
      pub sized : packet.size ≡ size
      pub told : items.items ≡ packet.items.items
      pub sound : IsSoundFrame packet.ranges.items
      pub fits : FitsChecked old size window
      pub waited : packet.delay ≡ delay_at now (acks_of (space_of space (state_in old).spaces)).counts.largest
      pub goes : Continues (SendsWithAck size (counted_if packet.eliciting size) packet.eliciting space packet.number
          packet.ranges.items now) old new

    -- a packet is packed with these ranges
    pub record PacksPacket (from : End) (space : SpaceId) (now size : ℕ) (eliciting : Bool) (checked : Option ℕ)
        (ranges : List (ℕ × ℕ)) (delay : ℕ) (packet : WirePacket) (items : Vec ℕ) (window : Option ℕ) : Type 0 where
      pub sender : packet.from ≡ from
      pub there : packet.space ≡ space
      pub sized : packet.size ≡ size
      pub told : items.items ≡ packet.items.items
      pub acks : packet.ranges.items ≡ ranges
      pub delays : packet.delay ≡ delay
      pub elicits : packet.eliciting ≡ eliciting
      pub window_is : window ≡ checked
      pub goes : Continues (SendsNumber 0 (counted_if eliciting size) eliciting space packet.number (largest_of ranges)
          now) old new

    abbrev pub PackTurn : End → SpaceId → ℕ → ℕ → Bool → Option ℕ → List (ℕ × ℕ) → ℕ → Outgoing → Type 0
    PackTurn from space now size eliciting checked ranges delay (outgoing.Sent packet items window) =
        PacksPacket from space now size eliciting checked ranges delay packet items window
    PackTurn from space now size eliciting checked ranges delay other = Continues GoesOnQuietly old new

    abbrev pub SendTurn : End → SpaceId → ℕ → ℕ → Result Outgoing SenderError → Type 0
    SendTurn from space now size (Ok (outgoing.Sent packet items window)) =
        SendsPacket from space now size packet items window
    SendTurn from space now size other = Continues GoesOnQuietly old new

    -- a packet is new: its items are delivered, and its ACK frame is not refused for what it says
    pub record TakesPacket (packet : WirePacket) (now : ℕ) (items : Vec ℕ) (acked : AckOutcome) : Type 0 where
      pub finds : FindsWithCause (persists_by_ack acked) (lost_by_ack packet.space acked) now (λ congests.
          HearsNumber now packet.size packet.space packet.number (Ok true)
          (with_congestion congests (endings_by_ack packet.space acked))) old new
      pub told : items.items ≡ packet.items.items
      pub honest : NoAccusation packet.space packet.ranges.items old acked
      pub within : AcksWithin packet.ranges.items acked
      pub framed : HasFrame (largest_of packet.ranges.items) acked
      pub sampled : SampledBy packet.space now packet.ranges.items old acked
      pub newly : AcksFlightBy packet.space packet.ranges.items old acked

    abbrev pub IfNew : WirePacket → ℕ → Fate → Type 0
    IfNew packet now (New items acked) = TakesPacket packet now items acked
    IfNew packet now other = Unit {0}

    -- a packet arrives
    pub record HearsPacket (packet : WirePacket) (now : ℕ) (fate : Fate) : Type 0 where
      pub goes : Continues (HearsNumber now packet.size packet.space packet.number (reply_of fate)
          (endings_by_fate packet.space fate)) old new
      pub takes : IfNew packet now fate

    abbrev pub HearTurn : WirePacket → ℕ → Result Fate SenderError → Type 0
    HearTurn packet now (Ok fate) = HearsPacket packet now fate
    HearTurn packet now (Err refusal) = Continues GoesOnQuietly old new

-- the turn of one end, while the other does nothing
abbrev pub TurnsAt : {A : Type 0} → End → (A → A → Type 0) → A → A → A → A → Type 0
TurnsAt Client Turns client server client_after server_after = Turns client client_after × (server_after ≡ server)
TurnsAt Server Turns client server client_after server_after = Turns server server_after × (client_after ≡ client)
