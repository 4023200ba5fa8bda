-- The line of each answer.
use Rattle.std.specs.Prelude.{ℕ, Bool, true, false, List, [], ◌∷◌, ◌++◌, ◌||◌, nat_lt, length, if◌then◌else◌}
use Rattle.std.specs.Prelude.{◌≡◌, Option, Some, None, Result, Ok, Err, decimal}
use lib.Chars.{codes}
use Rattle.recovery_base.specs.declared.below.SpaceId.{SpaceId}
use Rattle.recovery_events.specs.Refusals.{refusal_number, refusal_name}
use Rattle.recovery_script_syntax.specs.Answers.{items_text}
use Rattle.recovery_script_syntax.specs.Words.{space_word}
use Rattle.recovery_sender.specs.declared.sender.acks.Acknowledged.{Acknowledged}
use Rattle.recovery_sender.specs.declared.sender.losses.Losses.{Losses}
use Rattle.recovery_sender.specs.declared.sender.packets.Transmission.{Transmission}
use Rattle.recovery_sender.specs.declared.sender.packets.Transmission.TheVariants.{Transmitted, Blocked, Full, Delayed}
use Rattle.recovery_sender.specs.declared.sender.probes.Timeout.{Timeout}
use Rattle.recovery_sender.specs.declared.sender.probes.Timeout.TheVariants as timeout
use Rattle.recovery_sender.specs.declared.sender.SenderError.{SenderError}
use Rattle.recovery_sender.specs.declared.sender.SenderError.TheVariants.{DataSpace, Event, Unsent}
use Rattle.recovery_pair.specs.declared.steps.AckOutcome.{AckOutcome}
use Rattle.recovery_pair.specs.declared.steps.AckOutcome.TheVariants.{NoFrame, Taken, Refused}
use Rattle.recovery_pair.specs.declared.steps.End.{End}
use Rattle.recovery_pair.specs.declared.steps.End.TheVariants.{Client, Server}
use Rattle.recovery_pair.specs.declared.steps.Fate.{Fate}
use Rattle.recovery_pair.specs.declared.steps.Fate.TheVariants.{Dropped, Duplicate, New}
use Rattle.recovery_pair.specs.declared.steps.PairAnswer.{PairAnswer}
use Rattle.recovery_pair.specs.declared.steps.PairAnswer.TheVariants.{Arrived, Done, Expired, Failed, Held, Nothing, Sent}

abbrev pub space_text : SpaceId → List ℕ
space_text space = space_word space

abbrev pub end_text : End → List ℕ
end_text Client = codes "client"
end_text Server = codes "server"

-- an error with its number and name
abbrev pub error_text : SenderError → List ℕ
error_text (Event refusal) = codes "refused " ++ decimal (refusal_number refusal) ++ codes " " ++ refusal_name refusal
error_text Unsent = codes "refused 128 Unsent"
error_text DataSpace = codes "refused 129 DataSpace"

-- the bytes that are reported lost (RFC 9002, 7.3.2 and 7.6)
abbrev pub congestion_text : Bool → Option ℕ → List ℕ
congestion_text persistent None = []
congestion_text true (Some bytes) = codes " persistent " ++ decimal bytes
congestion_text false (Some bytes) = codes " congestion " ++ decimal bytes

-- allocation failed for a packet that is lost
abbrev pub cut_text : Bool → List ℕ
cut_text true = codes " cut"
cut_text false = []

abbrev pub lost_text : Losses → List ℕ
lost_text losses =
    items_text losses.numbers.items ++ congestion_text losses.is_persistent losses.congestion
    ++ cut_text losses.is_cut

-- something is declared lost, or allocation failed for it
abbrev pub has_losses : Losses → Bool
has_losses losses = losses.is_cut || nat_lt 0 (length losses.numbers.items)

abbrev pub also_lost_text : Bool → Losses → List ℕ
also_lost_text true losses = codes " lost" ++ lost_text losses
also_lost_text false losses = []

-- what an ACK frame newly acknowledges, and what is lost then, if anything is
abbrev pub acked_text : AckOutcome → List ℕ
acked_text NoFrame = []
acked_text (Taken acked) =
    codes " acked" ++ items_text acked.numbers.items ++ also_lost_text (has_losses acked.losses) acked.losses
acked_text (Refused error) = codes " ack " ++ error_text error

abbrev pub fate_text : Fate → List ℕ
fate_text (New items acked) = codes " new" ++ items_text items.items ++ acked_text acked
fate_text Duplicate = codes " duplicate"
fate_text (Dropped error) = codes " dropped " ++ error_text error

abbrev pub held_text : Transmission → List ℕ
held_text Transmitted = codes "transmitted"
held_text Blocked = codes "blocked"
held_text (Full ack) = codes "full"
held_text (Delayed until ack) = codes "delayed " ++ decimal until

abbrev pub expired_text : Timeout → List ℕ
expired_text timeout.Nothing = codes "nothing"
expired_text (timeout.Lost space losses) = codes "lost " ++ space_word space ++ lost_text losses
expired_text (timeout.Probe space count) = codes "probe " ++ space_word space ++ codes " " ++ decimal count

abbrev pub arrived_text : End → SpaceId → ℕ → List ℕ
arrived_text to space number =
    codes "arrived " ++ end_text to ++ codes " " ++ space_word space ++ codes " " ++ decimal number

-- whether a packet is not ack-eliciting, the window for which it was checked, the largest number of its ACK frame, if
-- it has one, and its ACK delay
abbrev pub only_text : Bool → List ℕ
only_text true = []
only_text false = codes " ack-only"

abbrev pub window_text : Option ℕ → List ℕ
window_text None = []
window_text (Some bytes) = codes " window " ++ decimal bytes

abbrev pub largest_text : Option ℕ → List ℕ
largest_text None = []
largest_text (Some number) = codes " largest " ++ decimal number

abbrev pub limits_text : Bool → Option ℕ → Option ℕ → ℕ → List ℕ
limits_text eliciting window largest delay =
    only_text eliciting ++ window_text window ++ largest_text largest ++ codes " delay " ++ decimal delay

abbrev pub answer_text : Result PairAnswer SenderError → List ℕ
answer_text (Ok Done) = codes "done"
answer_text (Ok Nothing) = codes "nothing"
answer_text (Ok (Held held)) = held_text held
answer_text (Ok (Failed error)) = codes "failed " ++ error_text error
answer_text (Ok (Sent number items eliciting window ack)) =
    codes "sent " ++ decimal number ++ items_text items.items
    ++ limits_text eliciting window ack.largest ack.delay
answer_text (Ok (Arrived to space number size fate)) = arrived_text to space number ++ fate_text fate
answer_text (Ok (Expired due)) = expired_text due
answer_text (Err error) = error_text error

abbrev pub answer_line : Result PairAnswer SenderError → List ℕ
answer_line answer = answer_text answer ++ 10 ∷ []
