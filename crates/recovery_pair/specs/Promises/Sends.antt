-- An endpoint sends what is passed to it. A measure is a number for the items of a packet: 1, to count packets, or how
-- often an item occurs. Once an endpoint has nothing to send in a space, it has sent there no less than was passed to
-- it, by every measure. This is false of an endpoint that drops an item, or sends another one, and answers `Nothing`.
use Rattle.std.specs.Prelude.{ℕ, ◌≤◌, List, Result, Ok}
use Rattle.recovery_base.specs.declared.below.SpaceId.{SpaceId}
use Rattle.recovery_sender.specs.declared.sender.SenderError.{SenderError}
use Rattle.recovery_pair.specs.declared.steps.End.{End}
use Rattle.recovery_pair.specs.declared.steps.PairAnswer.{PairAnswer}
use Rattle.recovery_pair.specs.declared.steps.PairAnswer.TheVariants.{Arrived, Done, Expired, Nothing, Sent}
use Rattle.recovery_pair.specs.declared.steps.PairStep.TheVariants.{Send}
use Rattle.recovery_pair.specs.Logs.{PairEvent, PairLog, handed, sent_in}

-- the answer to `Send`: a packet, what holds it back, an error, or nothing, if all that was passed was sent
abbrev pub IsAnsweredSend : PairLog → End → SpaceId → Result PairAnswer SenderError → Type 0
IsAnsweredSend log end space (Ok Nothing) =
    (measure : List ℕ → ℕ) → handed end measure space log ≤ sent_in end measure space log
IsAnsweredSend log end space (Ok Done) = ⊥
IsAnsweredSend log end space (Ok (Expired timeout)) = ⊥
IsAnsweredSend log end space (Ok (Arrived to there number size fate)) = ⊥
IsAnsweredSend log end space answer = Unit {0}

abbrev pub SendsWhatWaits : PairLog → PairEvent → Type 0
SendsWhatWaits log (Send end space now size, answer) = IsAnsweredSend log end space answer
SendsWhatWaits log (step, Ok (Sent number items eliciting window delay)) = ⊥
SendsWhatWaits log event = Unit {0}
