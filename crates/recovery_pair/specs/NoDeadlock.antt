-- No deadlock (RFC 9002, 6.2 and 6.2.2.1). An endpoint probes for handshake packets in flight, and for 1-RTT packets
-- once the handshake is confirmed. If its peer's address is validated, its loss detection timer is set while bytes are
-- in flight that it probes for. The window holds a handshake packet back only while that timer is set; after
-- confirmation any packet, unless the datagram is larger than the window. The amplification limit holds none back. The
-- timer is also set while a client does not know that the server validated its address. So in a handshake one of the
-- two endpoints has its timer set, while the amplification limit holds back the server (RFC 9000, 8.1).
use Rattle.std.specs.Prelude.{◌≡◌, ◌≢◌, ℕ, ◌<◌, ◌≤◌, ◌⊎◌, ◌∷◌, ◌&&◌, not, Bool, true, false, List, None, Result, Ok, if◌then◌else◌}
use Rattle.recovery_base.specs.declared.below.SpaceId.{SpaceId}
use Rattle.recovery_base.specs.declared.below.SpaceId.TheVariants.{Data, Handshake, Initial}
use Rattle.recovery_base.specs.Spaces.{same_space}
use Rattle.recovery_base.specs.declared.timer.Timer.TheVariants.{LossDetection}
use Rattle.recovery_base.specs.Timers.{moment}
use Rattle.recovery_sender.specs.Calls.{window_of}
use Rattle.recovery_sender.specs.Senders.{state_in}
use Rattle.recovery_sender.specs.declared.sender.Sender.{Sender}
use Rattle.recovery_sender.specs.declared.sender.SenderError.{SenderError}
use Rattle.recovery_sender.specs.declared.sender.packets.Transmission.{Transmission}
use Rattle.recovery_sender.specs.declared.sender.packets.Transmission.TheVariants.{Blocked, Full}
use Rattle.recovery_pair.specs.declared.endpoint.Waiting.{Waiting}
use Rattle.recovery_pair.specs.declared.steps.End.{End}
use Rattle.recovery_pair.specs.declared.steps.End.TheVariants.{Client, Server}
use Rattle.recovery_pair.specs.declared.steps.PairAnswer.{PairAnswer}
use Rattle.recovery_pair.specs.declared.steps.PairAnswer.TheVariants.{Held}
use Rattle.recovery_pair.specs.declared.steps.PairStep.{PairStep}
use Rattle.recovery_pair.specs.declared.steps.PairStep.TheVariants.{Send}
use Rattle.recovery_pair.specs.declared.steps.WirePacket.{WirePacket}
use Rattle.recovery_pair.specs.AddressKnown.{KnowsWithCause, before_last, has_received, known_at}
use Rattle.recovery_pair.specs.Flights.{flight_of}
use Rattle.recovery_pair.specs.Logs.{PairEvent, PairLog, has_validated, was_discarded}
use Rattle.recovery_pair.specs.Tied.{IsTied, validated_first}
use Rattle.recovery_pair.specs.Timed.{AreTimedAs}

module _ (log : PairLog) (end : End) where
  -- the space of a probe against a deadlock (RFC 9002, 6.2.2.1)
  abbrev pub deadlock_space : SpaceId
  deadlock_space =
      if (known_at end log).keys && not (was_discarded end Handshake log) then Handshake else Initial

  -- there are keys for this probe
  abbrev pub HasProbeKeys : Type 0
  HasProbeKeys = was_discarded end deadlock_space log ≡ false

  -- until the handshake is confirmed, 1-RTT packets are not probed for (RFC 9002, 6.2.1)
  abbrev pub is_unprobed : SpaceId → Bool
  is_unprobed space = same_space space Data && not (known_at end log).confirmed

  -- the bytes in flight that are probed for
  abbrev pub probed_flight : ℕ
  probed_flight = flight_of end (λ window. true) (λ space n. is_unprobed space) log

module _ (validated : Bool) (log : PairLog) where
  -- the address of its peer is validated
  abbrev pub HasValidated : End → Type 0
  HasValidated end = has_validated end (validated_first end validated) log ≡ true

  -- what the callers do in a handshake
  pub record FollowsHandshake : Type 0 where
    -- the server validates the client's address by the step after that by which it received a Handshake packet (RFC
    -- 9000, 8.1)
    pub validates : has_received Server Handshake (before_last log) ≡ true → HasValidated Server
    -- the handshake of the client is confirmed only after that (RFC 9001, 4.1.2)
    pub confirms : (known_at Client log).confirmed ≡ true → HasValidated Server
    -- until the handshake is confirmed there are keys for a probe against a deadlock (RFC 9001, 4.9)
    pub keys : (end : End) → ((known_at end log).confirmed ≡ true) ⊎ HasProbeKeys log end

module _ {F Q R C K S M P : Type 0} {f : _} {c : _} {q : _} {m : _} {r : _} where
  abbrev pub HasTimer : Sender F Q R C K S M P f c q m r → Type 0
  HasTimer sender = moment LossDetection (state_in sender).timers ≢ None

  module _ (validated : Bool) (log : PairLog) where
    module _ (end : End) where
      -- by the steps and answers so far
      pub record IsTimed (sender : Sender F Q R C K S M P f c q m r) : Type 0 where
        -- its timer is set while bytes are in flight that are probed for
        pub in_flight : HasValidated validated log end → 0 < probed_flight log end → HasTimer sender
        -- and at a client that does not know its own address validated
        pub unknown : HasValidated validated log end → HasProbeKeys log end → (known_at end log).address ≡ false
            → HasTimer sender

      -- A datagram of this size is held back by the amplification limit only while the address of the peer is not
      -- validated. The window holds it back only while the timer is set: a handshake packet, and once the handshake is
      -- confirmed any packet that is not larger than the window.
      abbrev pub IsHeldWithCause : SpaceId → ℕ → Transmission → Sender F Q R C K S M P f c q m r
          → Sender F Q R C K S M P f c q m r → Type 0
      IsHeldWithCause space size Blocked old new = HasValidated validated log end → ⊥
      IsHeldWithCause space size (Full ack) old new =
          HasValidated validated log end → is_unprobed log end space ≡ false
          → ((known_at end log).confirmed ≡ true → size ≤ window_of c.words (state_in old)) → HasTimer new
      IsHeldWithCause space size held old new = Unit {0}

    module _ (client server : Sender F Q R C K S M P f c q m r) where
      abbrev pub AreTimed : Type 0
      AreTimed = IsTimed Client client × IsTimed Server server

      -- no deadlock of both
      pub record AreNotStuck : Type 0 where
        -- the client's timer is set until the server validates its address
        pub unvalidated : (HasValidated validated log Server → ⊥) → HasTimer client
        -- while bytes are in flight that are probed for, the timer of an endpoint is set that the amplification limit
        -- does not hold back
        pub in_flight : (end : End) → 0 < probed_flight log end
            → HasTimer client ⊎ HasValidated validated log Server × HasTimer server

      -- if the callers follow the handshake; and what the client knows has a cause
      abbrev pub AreNeverStuck : Type 0
      AreNeverStuck = KnowsWithCause log × (FollowsHandshake validated log → AreNotStuck)

  module _ (client server client_after server_after : Sender F Q R C K S M P f c q m r) where
    -- of one endpoint, before and after a step
    abbrev pub ChangesAt : End → (Sender F Q R C K S M P f c q m r → Sender F Q R C K S M P f c q m r → Type 0) → Type 0
    ChangesAt Client Changes = Changes client client_after
    ChangesAt Server Changes = Changes server server_after

    abbrev pub HoldsWithCause : Bool → PairLog → PairEvent → Type 0
    HoldsWithCause validated log (Send end space now size, Ok (Held held)) =
        ChangesAt end (IsHeldWithCause validated log end space size held)
    HoldsWithCause validated log event = Unit {0}

-- after a step, by the log before it
module _ {F Q R C K S M : Type 0} {f : _} {c : _} {q : _} {m : _} {r : _}
    (client server : Sender F Q R C K S M (List ℕ) f c q m r) (wire : List WirePacket)
    (client_waits server_waits : List Waiting) where
  abbrev pub IfTied : (Bool → PairLog → Type 0) → Type 0
  IfTied Holds = (validated : Bool) (log : PairLog)
      → IsTied validated log client server wire client_waits server_waits
      → AreTimedAs (λ end. known_at end log) client server → Holds validated log

  -- each endpoint by itself, then both
  pub record NeverStuck (step : PairStep) (answer : Result PairAnswer SenderError)
      (client_after server_after : Sender F Q R C K S M (List ℕ) f c q m r) : Type 0 where
    pub timed : IfTied (λ validated log. AreTimed validated ((step, answer) ∷ log) client_after server_after)
    pub held : IfTied (λ validated log.
        HoldsWithCause client server client_after server_after validated log (step, answer))
    pub both : IfTied (λ validated log. KnowsWithCause log
        → AreNeverStuck validated ((step, answer) ∷ log) client_after server_after)
