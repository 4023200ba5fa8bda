-- What playing a schedule does: the steps of the lines are made, the promises of two endpoints hold for their answers,
-- and the lines of the answers are written.
use Rattle.std.specs.Prelude.{ℕ, Bool, List, Result}
use Rattle.recovery_replay.specs.Playing.{PlayEnds, Streams}
use Rattle.recovery_replay.specs.declared.outcome.Outcome.{Outcome}
use Rattle.recovery_sender.specs.declared.sender.Sender.{Sender}
use Rattle.recovery_sender.specs.declared.sender.SenderError.{SenderError}
use Rattle.recovery_pair.specs.declared.endpoint.Waiting.{Waiting}
use Rattle.recovery_pair.specs.declared.steps.PairAnswer.{PairAnswer}
use Rattle.recovery_pair.specs.declared.steps.PairStep.{PairStep}
use Rattle.recovery_pair.specs.declared.steps.WirePacket.{WirePacket}
use Rattle.recovery_pair.specs.Logs.{PairLog}
use Rattle.recovery_pair.specs.Runs.{HoldAlong}
use Rattle.recovery_pair.specs.Tied.{IsTied}
use Rattle.recovery_schedule.specs.Steps.{EncodesStep}
use Rattle.recovery_schedule.specs.Texts.{answer_line}

module _ {F Q R C K S M : Type 0} {f : _} {c : _} {q : _} {m : _} {r : _} where
  -- The steps were made and answered, from these endpoints and any log tied to them. They are those of the lines that
  -- were read, and the lines of their answers were written, as the outcome states.
  pub record PlaysSteps (client server : Sender F Q R C K S M (List ℕ) f c q m r) (wire : List WirePacket)
      (client_waits server_waits : List Waiting) (streams : Streams) (outcome : Outcome) : Type 0 where
    pub steps : List PairStep
    pub answers : List (Result PairAnswer SenderError)
    pub promises : (validated : Bool) (log : PairLog)
        → IsTied validated log client server wire client_waits server_waits → HoldAlong validated log steps answers
    pub ends : PlayEnds EncodesStep answer_line streams steps answers outcome
