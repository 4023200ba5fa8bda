-- What the program does with its input: it makes the calls of a sender, and writes the answer to each.
use Rattle.std.specs.Prelude.{ℕ, List}
use Rattle.recovery_replay.specs.Playing.{PlayEnds, Streams}
use Rattle.recovery_replay.specs.declared.outcome.Outcome.{Outcome}
use Rattle.recovery_sender.specs.Runs.{RunsCalls}
use Rattle.recovery_sender.specs.declared.calls.CallRecord.{CallRecord}
use Rattle.recovery_sender.specs.declared.sender.Sender.{Sender}
use Rattle.recovery_sender_program.specs.CallAnswers.{said_line}
use Rattle.recovery_sender_program.specs.CallLines.{EncodesCall, ItemCall}

module _ {F R C K : Type 0} {f : _} {c : _} {q : _} {m : _} {r : _} where
  -- the calls were made of a sender in order, the promises of each hold, and it ends so
  pub record PlaysCalls (first last : Sender F (List ℕ) R C K (Unit {0}) (Unit {0}) (List ℕ) f c q m r)
      (streams : Streams) (outcome : Outcome) : Type 0 where
    pub calls : List ItemCall
    pub answers : List (CallRecord (List ℕ))
    pub runs : RunsCalls calls answers first last
    pub ends : PlayEnds EncodesCall said_line streams calls answers outcome
