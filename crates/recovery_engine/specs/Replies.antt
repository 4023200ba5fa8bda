-- How replies are encoded in numbers.
use Rattle.std.specs.Prelude.{◌≡◌, ℕ, ◌≤◌, ◌<◌, ◌++◌, List, length, drop, Option, true, false, Some, None, Ok, Err, if◌then◌else◌, bytes_eq}
use lib.Chars.{codes}
use Rattle.std.specs.declared.ops.Range.{Range}
use Rattle.recovery_base.specs.declared.below.SpaceId.{SpaceId}
use Rattle.recovery_base.specs.declared.below.SpaceId.TheVariants.{Initial, Handshake, Data}
use Rattle.recovery_history.specs.History as History
use Rattle.recovery_events.specs.Refusals.{refusal_number}
use Rattle.recovery_events.specs.declared.event.Refusal.{Refusal}
use Rattle.recovery_events.specs.declared.event.Refusal.TheVariants.{Ecn, NoMemory}
use Rattle.recovery_events.specs.declared.event.Answer.TheVariants.{New, Duplicate, Sent, Acked, Lost, Retire, Flag, Timeout, InFlight, Transmitted, Blocked, Delayed, Ready, Probe, NoProbe, BlackHole, Sendable, Queue, Done}
use Rattle.recovery_engine.specs.declared.numbers.TheConstants.{ANSWER_NEW, ANSWER_DUPLICATE, ANSWER_SENT, ANSWER_ACKED, ANSWER_LOST, ANSWER_RETIRE, ANSWER_FLAG, ANSWER_TIMEOUT, ANSWER_IN_FLIGHT, ANSWER_TRANSMITTED, ANSWER_BLOCKED, ANSWER_DELAYED, ANSWER_READY, ANSWER_PROBE, ANSWER_NO_PROBE, ANSWER_BLACK_HOLE, ANSWER_SENDABLE, ANSWER_QUEUE, ANSWER_DONE, ANSWER_REFUSED, REFUSAL_BAD_ARGUMENT, REFUSAL_DECIDED, REFUSAL_NO_RECOVERY, REFUSAL_NO_SENDER, FAULT_ECT0_FALLS, FAULT_ECT1_FALLS, FAULT_CE_FALLS, FAULT_BLEACHED, FAULT_CORRUPTED}
use Rattle.recovery_engine.specs.declared.spelling.EncodedReply.{EncodedReply}

-- an answer without contents
abbrev pub plain : ℕ → EncodedReply
plain kind = record { kind = kind; refusal = 0; flag = false; other = false; size = 0; first = 0; second = 0 }

abbrev pub sent_spelled : ℕ → Option ℕ → EncodedReply
sent_spelled number (Some forgotten) = record (plain ANSWER_SENT) { flag = true; first = number; second = forgotten }
sent_spelled number None = record (plain ANSWER_SENT) { first = number }

abbrev pub retire_spelled : Option (Range ℕ × List ℕ) → EncodedReply
retire_spelled (Some retired) =
    record (plain ANSWER_RETIRE) { flag = true; first = retired.0.start; second = retired.0.end }
retire_spelled None = plain ANSWER_RETIRE

abbrev pub timeout_spelled : Option ℕ → EncodedReply
timeout_spelled (Some time) = record (plain ANSWER_TIMEOUT) { flag = true; first = time }
timeout_spelled None = plain ANSWER_TIMEOUT

-- which fault the peer's ECN counts have, by its text (RFC 9000, 13.4.2.1)
abbrev pub fault_number : List ℕ → ℕ
fault_number text =
    if bytes_eq text (codes "peer ECT(0) count regression") then FAULT_ECT0_FALLS
    else if bytes_eq text (codes "peer ECT(1) count regression") then FAULT_ECT1_FALLS
    else if bytes_eq text (codes "peer CE count regression") then FAULT_CE_FALLS
    else if bytes_eq text (codes "ECN bleaching") then FAULT_BLEACHED
    else FAULT_CORRUPTED

abbrev pub refusal_spelled : Refusal → EncodedReply
refusal_spelled (Ecn text) = record (plain ANSWER_REFUSED) { refusal = 17; first = fault_number text.now }
refusal_spelled refusal = record (plain ANSWER_REFUSED) { refusal = refusal_number refusal }

-- Q is a queue of items
abbrev pub encoded : {Q : Type 0} → History.Reply Q → EncodedReply
encoded (Ok (New arm)) = record (plain ANSWER_NEW) { flag = arm }
encoded (Ok Duplicate) = plain ANSWER_DUPLICATE
encoded (Ok (Sent number forgotten)) = sent_spelled number forgotten
encoded (Ok (Acked probe)) = record (plain ANSWER_ACKED) { flag = probe }
encoded (Ok (Lost probe)) = record (plain ANSWER_LOST) { flag = probe }
encoded (Ok (Retire retired)) = retire_spelled retired
encoded (Ok (Flag flag)) = record (plain ANSWER_FLAG) { flag = flag }
encoded (Ok (Timeout time)) = timeout_spelled time
encoded (Ok (InFlight bytes eliciting)) = record (plain ANSWER_IN_FLIGHT) { first = bytes; second = eliciting }
encoded (Ok Transmitted) = plain ANSWER_TRANSMITTED
encoded (Ok Blocked) = plain ANSWER_BLOCKED
encoded (Ok (Delayed time)) = record (plain ANSWER_DELAYED) { first = time }
encoded (Ok Ready) = plain ANSWER_READY
encoded (Ok (Probe number size)) = record (plain ANSWER_PROBE) { first = number; size = size }
encoded (Ok NoProbe) = plain ANSWER_NO_PROBE
encoded (Ok (BlackHole found)) = record (plain ANSWER_BLACK_HOLE) { flag = found }
encoded (Ok (Sendable frames)) = record (plain ANSWER_SENDABLE) { flag = frames.acks; other = frames.other }
encoded (Ok (Queue queue)) = plain ANSWER_QUEUE
encoded (Ok Done) = plain ANSWER_DONE
encoded (Err refusal) = refusal_spelled refusal

-- ---- errors of a call

-- there is no memory for the arguments
abbrev pub no_memory : EncodedReply
no_memory = refusal_spelled NoMemory

-- the handle holds no recovery
abbrev pub no_recovery : EncodedReply
no_recovery = record (plain ANSWER_REFUSED) { refusal = REFUSAL_NO_RECOVERY }

-- it holds one without a sender
abbrev pub no_sender : EncodedReply
no_sender = record (plain ANSWER_REFUSED) { refusal = REFUSAL_NO_SENDER }

-- only the sender itself makes this event
abbrev pub decided : EncodedReply
decided = record (plain ANSWER_REFUSED) { refusal = REFUSAL_DECIDED }

-- an argument is out of its range
abbrev pub bad_argument : EncodedReply
bad_argument = record (plain ANSWER_REFUSED) { refusal = REFUSAL_BAD_ARGUMENT }

-- ---- other results in numbers

abbrev pub space_number : SpaceId → ℕ
space_number Initial = 0
space_number Handshake = 1
space_number Data = 2

-- items are counted, and written at the front if there is room for all; the rest is unchanged
pub record IsWritten (items old : List ℕ) (count : ℕ) (new : List ℕ) : Type 0 where
  pub counted : count ≡ length items
  pub written : count ≤ length old → new ≡ items ++ drop count old
  pub too_many : length old < count → new ≡ old

-- ---- stored results

-- stored next to the recovery, to be read: the queue that was last taken,
abbrev pub taken_after : {Q : Type 0} → History.Reply Q → Q → Q
taken_after (Ok (Queue queue)) taken = queue
taken_after reply taken = taken

-- and the token that was last returned
abbrev pub token_after : {Q : Type 0} → History.Reply Q → List ℕ → List ℕ
token_after (Ok (Retire (Some retired))) token = retired.1
token_after reply token = token
