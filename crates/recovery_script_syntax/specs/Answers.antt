-- The line of each answer.
use Rattle.std.specs.Prelude.{◌≡◌, ℕ, Bool, true, false, List, [], ◌∷◌, ◌++◌, Option, Some, None}
use Rattle.std.specs.Prelude.{Result, Ok, Err, String, string_bytes, decimal}
use Rattle.std.specs.declared.ops.Range.{Range}
use Rattle.std.specs.List.{flat_map}
use lib.Chars.{codes}
use Rattle.recovery_spaces.specs.declared.spaces.SendableFrames.{SendableFrames}
use Rattle.recovery_events.specs.declared.event.Answer.{Answer}
use Rattle.recovery_events.specs.declared.event.Answer.TheVariants.{New, Duplicate, Sent, Acked, Lost}
use Rattle.recovery_events.specs.declared.event.Answer.TheVariants.{Retire, Flag, Timeout, InFlight}
use Rattle.recovery_events.specs.declared.event.Answer.TheVariants.{Transmitted, Blocked, Delayed}
use Rattle.recovery_events.specs.declared.event.Answer.TheVariants.{Ready, Done}
use Rattle.recovery_events.specs.declared.event.Answer.TheVariants.{Probe, NoProbe, BlackHole}
use Rattle.recovery_events.specs.declared.event.Answer.TheVariants.{Sendable, Queue}
use Rattle.recovery_events.specs.declared.event.Refusal.{Refusal}
use Rattle.recovery_events.specs.declared.event.Refusal.TheVariants.{Ecn}
use Rattle.recovery_events.specs.Refusals.{refusal_number, refusal_name}

-- the replies to the events of a script
abbrev pub ScriptReply : Type 0
ScriptReply = Result (Answer (List ℕ)) Refusal

-- ---- each kind of answer

abbrev pub new_text : Bool → List ℕ
new_text true = codes "new arm"
new_text false = codes "new"

abbrev pub sent_text : ℕ → Option ℕ → List ℕ
sent_text number None = codes "sent " ++ decimal number
sent_text number (Some forgotten) = codes "sent " ++ decimal number ++ codes " forgot " ++ decimal forgotten

-- for a packet that is no longer tracked: its outcome, and whether it was a probe
abbrev pub done_with_text : List ℕ → Bool → List ℕ
done_with_text fate true = fate ++ codes " probe"
done_with_text fate false = fate

abbrev pub retire_text : Option (Range ℕ × List ℕ) → List ℕ
retire_text (Some (numbers, token)) = codes "retire " ++ decimal numbers.start ++ codes " " ++ decimal numbers.end
retire_text None = codes "retire none"

abbrev pub flag_text : Bool → List ℕ
flag_text true = codes "yes"
flag_text false = codes "no"

abbrev pub timeout_text : Option ℕ → List ℕ
timeout_text (Some time) = codes "timeout " ++ decimal time
timeout_text None = codes "timeout none"

abbrev pub in_flight_text : ℕ → ℕ → List ℕ
in_flight_text bytes ack_eliciting = codes "in-flight " ++ decimal bytes ++ codes " " ++ decimal ack_eliciting

abbrev pub delayed_text : ℕ → List ℕ
delayed_text until = codes "delayed " ++ decimal until

abbrev pub probe_text : ℕ → ℕ → List ℕ
probe_text number size = codes "probe " ++ decimal number ++ codes " " ++ decimal size

abbrev pub black_hole_text : Bool → List ℕ
black_hole_text true = codes "black-hole yes"
black_hole_text false = codes "black-hole no"

-- an ACK, and something else
abbrev pub sendable_text : SendableFrames → List ℕ
sendable_text frames =
    codes "sendable " ++ flag_text frames.acks ++ codes " " ++ flag_text frames.other

-- the items, with a space before each
abbrev pub items_text : List ℕ → List ℕ
items_text items = flat_map (λ item. codes " " ++ decimal item) items

abbrev pub queue_text : List ℕ → List ℕ
queue_text items = codes "queue" ++ items_text items

-- the text of an error after its number and its name
abbrev pub refusal_reason : Refusal → List ℕ
refusal_reason (Ecn reason) = codes " " ++ reason.now
refusal_reason refusal = []

abbrev pub refusal_text : Refusal → List ℕ
refusal_text refusal =
    codes "refused " ++ decimal (refusal_number refusal) ++ codes " " ++ refusal_name refusal
    ++ refusal_reason refusal

-- ---- all of them

abbrev pub answer_text : ScriptReply → List ℕ
answer_text (Ok (New arm)) = new_text arm
answer_text (Ok Duplicate) = codes "duplicate"
answer_text (Ok (Sent number forgotten)) = sent_text number forgotten
answer_text (Ok (Acked probe)) = done_with_text (codes "acked") probe
answer_text (Ok (Lost probe)) = done_with_text (codes "lost") probe
answer_text (Ok (Retire retired)) = retire_text retired
answer_text (Ok (Flag flag)) = flag_text flag
answer_text (Ok (Timeout time)) = timeout_text time
answer_text (Ok (InFlight bytes ack_eliciting)) = in_flight_text bytes ack_eliciting
answer_text (Ok Transmitted) = codes "transmitted"
answer_text (Ok Blocked) = codes "blocked"
answer_text (Ok (Delayed until)) = delayed_text until
answer_text (Ok Ready) = codes "ready"
answer_text (Ok (Probe number size)) = probe_text number size
answer_text (Ok NoProbe) = codes "no probe"
answer_text (Ok (BlackHole reported)) = black_hole_text reported
answer_text (Ok (Sendable frames)) = sendable_text frames
answer_text (Ok (Queue items)) = queue_text items
answer_text (Ok Done) = codes "done"
answer_text (Err refusal) = refusal_text refusal

-- this line was appended
abbrev pub Writes : {Z : Type 0} → String Z → List ℕ → String Z → Type 0
Writes old line new = string_bytes new ≡ string_bytes old ++ line ++ 10 ∷ []

abbrev pub answer_line : ScriptReply → List ℕ
answer_line reply = answer_text reply ++ 10 ∷ []

-- a line for each reply
abbrev pub answer_lines : List ScriptReply → List ℕ
answer_lines replies = flat_map answer_line replies
