-- The reply of each call of a sender (RFC 9002, Appendices A and B), in one place. It includes the promises by the
-- events before the call, and that the sender never stalls (`ProcessesAck`, `DetectsLosses`, `DeclaresAllLost`,
-- `CompletesCall`).
use Rattle.std.specs.Prelude.{◌≡◌, ℕ, ◌+◌, ◌≤◌, true, false, Some, Result, Ok, Err, IfOk, OnOk, OnErr, [], ◌∷◌}
use Rattle.recovery_base.specs.declared.below.SpaceId.{SpaceId}
use Rattle.recovery_events.specs.declared.event.Answer.TheVariants as answers
use Rattle.recovery_events.specs.declared.event.Event.{Event}
use Rattle.recovery_events.specs.declared.event.Event.TheVariants.{DatagramIn, DiscardSpace, Validated}
use Rattle.recovery_paths.specs.declared.path_pair.PathName.TheVariants.{Current}
use Rattle.recovery_sender.specs.RetransmitAll.{DeclaresAllLost}
use Rattle.recovery_sender.specs.Acking.{AckResult, IsNewly}
use Rattle.recovery_losses.specs.Variables.{begun_anew, is_probe_due}
use Rattle.recovery_sender.specs.Calls.{ChangesRtt, PermitsAckAlone, after_transmit, bytes_in_flight, challenged, datagram_reply, discard_reply, is_checked, transmit_steps, window_of, IsTransmissionReply, IsPassedThrough, EventResult, ProbeResult}
use Rattle.recovery_sender.specs.Promises.Pasts.{ForEveryRun}
use Rattle.recovery_sender.specs.Promises.Window.{FitsWindow, IsByRoom}
use Rattle.recovery_sender.specs.Senders.{state_in}
use Rattle.recovery_sender.specs.Steps.{marked, told, CompletesCall}
use Rattle.recovery_sender.specs.Timeouts.{TimeoutResult, WaitsForItsTime}
use Rattle.recovery_sender.specs.declared.sender.SenderError.{SenderError}
use Rattle.recovery_sender.specs.declared.sender.Sender.{Sender}
use Rattle.recovery_losses.specs.declared.variables.Variables.{Variables}
use Rattle.recovery_sender.specs.declared.sender.packets.Transmission.{Transmission}
use Rattle.recovery_sender.specs.declared.sender.packets.Transmission.TheVariants.{Transmitted}
use Rattle.recovery_sender.specs.declared.calls.Call.{Call}
use Rattle.recovery_sender.specs.declared.calls.Call.TheVariants as calls
use Rattle.recovery_sender.specs.declared.calls.Datagram.{Datagram}
use Rattle.recovery_sender.specs.declared.calls.CallReplyValue.{CallReplyValue}
use Rattle.recovery_sender.specs.declared.calls.CallReplyValue.TheVariants as replies

-- `Done` or the error
abbrev pub is_done : {Q : Type 0} → Result (Unit {0}) SenderError → Result (CallReplyValue Q) SenderError
is_done (Ok done) = Ok replies.Done
is_done (Err refusal) = Err refusal

module _ {F Q R C K S M P : Type 0} {f : _} {c : _} {q : _} {m : _} {r : _} (old new : Sender F Q R C K S M P f c q m r)
  where
    -- a datagram may be sent, or not: what counts in flight fits into the window, if no probe is due (RFC 9002, 7; RFC
    -- 9000, 8.1)
    pub record TransmitCall (datagram : Datagram) (reply : Result Transmission SenderError) : Type 0 where
      pub is : IsTransmissionReply c.words (state_in old) old.variables datagram.now datagram.bytes datagram.space
          datagram.in_flight reply
      pub window : reply ≡ Ok Transmitted → datagram.in_flight ≡ true
          → is_probe_due old.variables datagram.space ≡ false
          → bytes_in_flight (state_in old) + datagram.bytes ≤ window_of c.words (state_in old)
      -- by the events before: a datagram for which the window is checked is sent or delayed exactly if it fits
      pub fits : IfOk reply (λ sent. ForEveryRun old (λ beginning past. IsByRoom
          (is_checked old.variables datagram.space datagram.in_flight) (FitsWindow beginning past datagram.bytes) sent))
      pub steps : IfOk reply (λ sent. CompletesCall (transmit_steps datagram.now datagram.bytes
          (is_checked old.variables datagram.space datagram.in_flight) sent)
          (after_transmit datagram.now datagram.space datagram.in_flight sent old.variables) old new)
      -- if it has to wait, an ACK alone of its size need not
      pub alone : IfOk reply (λ sent. PermitsAckAlone (state_in new) datagram.space datagram.bytes sent)
      pub stays : OnErr reply (new ≡ old)

    -- one event is applied, with these variables after it; or it fails with this error, and nothing changes
    pub record IsOneEvent (event : Event Q S M P) (kept : Variables)
        (reply is : Result (Unit {0}) SenderError) : Type 0 where
      pub same : reply ≡ is
      pub steps : OnOk reply (CompletesCall (told event (Ok answers.Done) ∷ []) kept old new)
      pub stays : OnErr reply (new ≡ old)

    abbrev pub DatagramCall : ℕ → Result (Unit {0}) SenderError → Type 0
    DatagramCall bytes reply =
        IsOneEvent (DatagramIn Current bytes) old.variables reply (datagram_reply (state_in old) bytes)

    abbrev pub DiscardCall : SpaceId → ℕ → Result (Unit {0}) SenderError → Type 0
    DiscardCall space now reply =
        IsOneEvent (DiscardSpace space) (begun_anew space now old.variables) reply (discard_reply (state_in old) space)

-- the reply of each call
abbrev pub CallReply : {F Q R C K S M P : Type 0} {f : _} {c : _} {q : _} {m : _} {r : _} → Call Q S M P
    → Sender F Q R C K S M P f c q m r → Sender F Q R C K S M P f c q m r → Result (CallReplyValue Q) SenderError
    → Type 0
CallReply (calls.Transmit datagram) old new (Ok (replies.Transmission sent)) = TransmitCall old new datagram (Ok sent)
CallReply (calls.Transmit datagram) old new (Err refusal) = TransmitCall old new datagram (Err refusal)
CallReply (calls.Ack frame) old new (Ok (replies.Acknowledged acked)) =
    AckResult frame.space frame.now frame.ranges.items frame.ack old new (Ok acked)
CallReply (calls.Ack frame) old new (Err refusal) =
    AckResult frame.space frame.now frame.ranges.items frame.ack old new (Err refusal)
CallReply (calls.Timeout now) old new (Ok (replies.Timeout timeout)) =
    TimeoutResult now old new (Ok timeout) × WaitsForItsTime now old new (Ok timeout)
CallReply (calls.Timeout now) old new (Err refusal) =
    TimeoutResult now old new (Err refusal) × WaitsForItsTime now old new (Err refusal)
CallReply (calls.Probe asking) old new (Ok (replies.Probe queue)) =
    ProbeResult asking.space asking.immediate_ack asking.streams old new (Ok queue)
CallReply (calls.Probe asking) old new (Err refusal) =
    ProbeResult asking.space asking.immediate_ack asking.streams old new (Err refusal)
CallReply (calls.Datagram bytes) old new (Ok replies.Done) = DatagramCall old new bytes (Ok (tt {0}))
CallReply (calls.Datagram bytes) old new (Err refusal) = DatagramCall old new bytes (Err refusal)
CallReply calls.HandshakeKeys old new (Ok replies.Done) =
    CompletesCall [] (record old.variables { has_handshake_keys = true }) old new
CallReply calls.HandshakeConfirmed old new (Ok replies.Done) =
    CompletesCall [] (record old.variables { is_handshake_confirmed = true; is_address_known = true }) old new
CallReply calls.AddressValidated old new (Ok replies.Done) =
    CompletesCall (told (Validated Current) (Ok answers.Done) ∷ []) old.variables old new
CallReply (calls.PeerDelay span) old new (Ok replies.Done) =
    CompletesCall [] (record old.variables { max_ack_delay = span }) old new
CallReply (calls.InitialRtt rtt) old new (Ok replies.Done) =
    ChangesRtt (record old.variables { initial_rtt = Some rtt }) old new
CallReply (calls.Challenge challenge pending) old new (Ok replies.Done) =
    CompletesCall (marked (challenged (state_in old) challenge pending) ∷ []) old.variables old new
CallReply (calls.NewlyAcked asked) old new (Ok (replies.Newly newly)) =
    IsNewly asked.space asked.ranges.items old (Ok newly) × (new ≡ old)
CallReply (calls.NewlyAcked asked) old new (Err refusal) =
    IsNewly asked.space asked.ranges.items old (Err refusal) × (new ≡ old)
CallReply (calls.Discard space now) old new (Ok replies.Done) = DiscardCall old new space now (Ok (tt {0}))
CallReply (calls.Discard space now) old new (Err refusal) = DiscardCall old new space now (Err refusal)
CallReply (calls.Abandon space now) old new (Ok (replies.Retransmitted all)) = DeclaresAllLost space old now new
    (Ok all)
CallReply (calls.Abandon space now) old new (Err refusal) = DeclaresAllLost space old now new (Err refusal)
CallReply (calls.Event event) old new (Ok (replies.Answer answer)) = IsPassedThrough event × EventResult event old new
    (Ok answer)
CallReply (calls.Event event) old new (Err refusal) = IsPassedThrough event × EventResult event old new (Err refusal)
CallReply (calls.Event event) old new (Ok replies.Decided) = (IsPassedThrough event → ⊥) × (new ≡ old)
CallReply call old new reply = ⊥
