-- The line of each call's answer.
use Rattle.std.specs.Prelude.{◌≡◌, ℕ, ◌==◌, ◌&&◌, not, Bool, true, false, List, [], ◌∷◌, ◌++◌, length}
use Rattle.std.specs.Prelude.{Option, Some, None, is_none, if◌then◌else◌, Result, Ok, Err, decimal}
use lib.Chars.{codes}
use Rattle.recovery_script_syntax.specs.Answers.{answer_text, items_text, queue_text, refusal_text}
use Rattle.recovery_script_syntax.specs.Words.{space_word}
use Rattle.recovery_sender.specs.declared.calls.CallRecord.{CallRecord}
use Rattle.recovery_sender.specs.declared.calls.CallReplyValue.{CallReplyValue}
use Rattle.recovery_sender.specs.declared.calls.CallReplyValue.TheVariants as replies
use Rattle.recovery_sender.specs.declared.sender.SenderError.{SenderError}
use Rattle.recovery_sender.specs.declared.sender.SenderError.TheVariants.{DataSpace, Event, Unsent}
use Rattle.recovery_sender.specs.declared.sender.acks.Acknowledged.{Acknowledged}
use Rattle.recovery_sender.specs.declared.sender.acks.EcnOutcome.{EcnOutcome}
use Rattle.recovery_sender.specs.declared.sender.acks.EcnOutcome.TheVariants.{Quiet, Marked, Failed}
use Rattle.recovery_sender.specs.declared.sender.losses.Losses.{Losses}
use Rattle.recovery_sender.specs.declared.sender.packets.Transmission.{Transmission}
use Rattle.recovery_sender.specs.declared.sender.packets.Transmission.TheVariants.{Transmitted, Blocked, Full, Delayed}
use Rattle.recovery_sender.specs.declared.sender.probes.Timeout.{Timeout}
use Rattle.recovery_sender.specs.declared.sender.probes.Timeout.TheVariants.{Nothing, Lost, Probe}

-- the replies to the calls of lines
abbrev pub ItemReply : Type 0
ItemReply = CallReplyValue (List ℕ)

-- ---- losses

-- a mark, if it applies
abbrev pub mark_text : Bool → List ℕ → List ℕ
mark_text true mark = mark
mark_text false mark = []

-- the numbers of lost packets, that of the MTU probe last; or that there is none
abbrev pub lost_numbers : List ℕ → Option ℕ → List ℕ
lost_numbers numbers (Some probe) = items_text numbers ++ (codes " " ++ decimal probe)
lost_numbers [] None = codes " none"
lost_numbers (number ∷ numbers) None = items_text (number ∷ numbers)

-- the bytes by which congestion is judged, and whether it is persistent
abbrev pub congestion_text : Option ℕ → Bool → List ℕ
congestion_text None persistent = []
congestion_text (Some bytes) true = codes " persistent " ++ decimal bytes
congestion_text (Some bytes) false = codes " congestion " ++ decimal bytes

-- whether a black hole is reported, and whether allocation failed for a packet that is lost
abbrev pub marks_text : Bool → Bool → List ℕ
marks_text is_black_hole is_cut = mark_text is_black_hole (codes " black-hole") ++ mark_text is_cut (codes " cut")

abbrev pub losses_text : Losses → List ℕ
losses_text losses =
    codes "lost" ++ lost_numbers losses.numbers.items losses.probe
    ++ congestion_text losses.congestion losses.is_persistent ++ marks_text losses.is_black_hole losses.is_cut

abbrev pub retransmitted_text : List ℕ → Bool → List ℕ
retransmitted_text numbers is_cut = codes "lost" ++ lost_numbers numbers None ++ mark_text is_cut (codes " cut")

-- ---- an ACK frame

-- no packet is lost, and allocation failed for none
abbrev pub is_without : Losses → Bool
is_without losses = not losses.is_cut && (length losses.numbers.items == 0) && is_none losses.probe

abbrev pub ecn_text : EcnOutcome → List ℕ
ecn_text Quiet = []
ecn_text Marked = codes " ecn-congestion"
ecn_text Failed = codes " ecn-failed"

-- what is lost, if anything is, after what is acknowledged
abbrev pub lost_behind : Losses → List ℕ
lost_behind losses = if is_without losses then [] else codes " " ++ losses_text losses

-- what is newly acknowledged, if anything is; then what is lost, and the outcome of the ECN counts
abbrev pub acked_text : List ℕ → Losses → EcnOutcome → List ℕ
acked_text numbers losses ecn = if length numbers == 0 then codes "acked none"
    else codes "acked" ++ items_text numbers ++ lost_behind losses ++ ecn_text ecn

-- ---- other replies

-- whether an ACK is required in the space (RFC 9000, 13.2.1)
abbrev pub required_text : Bool → List ℕ
required_text ack = if ack then codes " ack" else []

abbrev pub transmission_text : Transmission → List ℕ
transmission_text Transmitted = codes "transmitted"
transmission_text Blocked = codes "blocked"
transmission_text (Full ack) = codes "full" ++ required_text ack
transmission_text (Delayed until ack) = codes "delayed " ++ decimal until ++ required_text ack

abbrev pub timeout_text : Timeout → List ℕ
timeout_text Nothing = codes "nothing"
timeout_text (Lost space losses) = losses_text losses
timeout_text (Probe space count) = codes "probe " ++ space_word space ++ codes " " ++ decimal count

-- when the loss detection timer is due
abbrev pub timer_text : Option ℕ → List ℕ
timer_text (Some time) = codes " timer " ++ decimal time
timer_text None = codes " timer none"

-- ---- all of them

abbrev pub reply_text : ItemReply → List ℕ
reply_text (replies.Transmission transmission) = transmission_text transmission
reply_text (replies.Acknowledged acked) = acked_text acked.numbers.items acked.losses acked.ecn
reply_text (replies.Newly newly) = items_text newly.numbers.items
reply_text (replies.Timeout timeout) = timeout_text timeout
reply_text (replies.Probe queue) = queue_text queue
reply_text (replies.Retransmitted all) = retransmitted_text all.numbers.items all.is_cut
reply_text (replies.Answer answer) = answer_text (Ok answer)
reply_text replies.Decided = codes "decided"
reply_text replies.Done = codes "done"

-- an error leaves the timer as it was, which is not repeated
abbrev pub call_text : Result ItemReply SenderError → Option ℕ → List ℕ
call_text (Ok reply) timer = reply_text reply ++ timer_text timer
call_text (Err (Event refusal)) timer = refusal_text refusal
call_text (Err Unsent) timer = codes "refused 128 Unsent"
call_text (Err DataSpace) timer = codes "refused 129 DataSpace"

-- a line for each call
abbrev pub said_line : CallRecord (List ℕ) → List ℕ
said_line said = call_text said.reply said.timer ++ 10 ∷ []
