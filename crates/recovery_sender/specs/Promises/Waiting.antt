-- Since when a handshake space waits for room in the window, by the calls and their replies (RFC 9002, 7 and 7.5). It
-- waits since a datagram that counts in flight was first `Full`, until one is `Transmitted` or `Delayed`, or the space
-- is discarded or its packets are all retransmitted. Each probe timeout starts the time again.
use Rattle.std.specs.Prelude.{◌≡◌, ℕ, ◌&&◌, Bool, true, false, List, [], ◌∷◌, Option, None, Some, option_map, Result, Ok, if◌then◌else◌}
use Rattle.std.specs.Option.{option_or}
use Rattle.recovery_base.specs.declared.below.SpaceId.{SpaceId}
use Rattle.recovery_base.specs.declared.below.SpaceId.TheVariants.{Data}
use Rattle.recovery_base.specs.Spaces.{same_space}
use Rattle.recovery_losses.specs.Variables.{since_in}
use Rattle.recovery_sender.specs.declared.calls.Call.{Call}
use Rattle.recovery_sender.specs.declared.calls.Call.TheVariants.{Abandon, Discard, Timeout, Transmit}
use Rattle.recovery_sender.specs.declared.calls.CallRecord.{CallRecord}
use Rattle.recovery_sender.specs.declared.calls.CallReplyValue.{CallReplyValue}
use Rattle.recovery_sender.specs.declared.calls.CallReplyValue.TheVariants as replies
use Rattle.recovery_sender.specs.declared.sender.Sender.{Sender}
use Rattle.recovery_sender.specs.declared.sender.SenderError.{SenderError}
use Rattle.recovery_sender.specs.declared.sender.packets.Transmission.{Transmission}
use Rattle.recovery_sender.specs.declared.sender.packets.Transmission.TheVariants.{Blocked, Full}
use Rattle.recovery_sender.specs.declared.sender.probes.Timeout.TheVariants.{Probe}

abbrev pub since_after : ℕ → Transmission → Option ℕ → Option ℕ
since_after now (Full ack) since = option_or since (Some now)
since_after now Blocked since = since
since_after now sent since = None

module _ {Q S M P : Type 0} (space : SpaceId) where
  -- after a call
  abbrev pub since_by : Call Q S M P → Result (CallReplyValue Q) SenderError → Option ℕ → Option ℕ
  since_by (Transmit datagram) (Ok (replies.Transmission sent)) since =
      if same_space datagram.space space && datagram.in_flight then since_after datagram.now sent since else since
  since_by (Timeout now) (Ok (replies.Timeout (Probe there count))) since = option_map (λ before. now) since
  since_by (Discard there now) (Ok replies.Done) since = if same_space there space then None else since
  since_by (Abandon there now) (Ok (replies.Retransmitted all)) since =
      if same_space there space then None else since
  since_by call reply since = since

  -- after calls in order
  abbrev pub since_by_all : List (Call Q S M P) → List (CallRecord Q) → Option ℕ → Option ℕ
  since_by_all (call ∷ calls) (said ∷ more) since = since_by_all calls more (since_by call said.reply since)
  since_by_all calls said since = since

-- a sender knows since when, by the calls between
abbrev pub WaitsByAnswers : {F Q R C K S M P : Type 0} {f : _} {c : _} {q : _} {m : _} {r : _} → List (Call Q S M P)
    → List (CallRecord Q) → Sender F Q R C K S M P f c q m r → Sender F Q R C K S M P f c q m r → Type 0
WaitsByAnswers calls said old new = (space : SpaceId) → same_space space Data ≡ false
    → since_in space new.variables.full_since ≡ since_by_all space calls said (since_in space old.variables.full_since)
