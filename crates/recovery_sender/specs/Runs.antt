-- A run of a sender over calls: each has one reply, which satisfies the promises of the call.
use Rattle.std.specs.Prelude.{◌≡◌, ℕ, List, [], ◌∷◌}
use Rattle.rand_core.specs.Stream.{Stream}
use Rattle.recovery_base.specs.Timers.{moment}
use Rattle.recovery_base.specs.declared.timer.Timer.TheVariants.{LossDetection}
use Rattle.recovery_history.specs.declared.config.RecoveryConfig.{RecoveryConfig}
use Rattle.recovery_sender.specs.Calls.{IsNewSender}
use Rattle.recovery_sender.specs.Promises.Waiting.{WaitsByAnswers}
use Rattle.recovery_sender.specs.Senders.{state_in}
use Rattle.recovery_sender.specs.declared.sender.Sender.{Sender}
use Rattle.recovery_losses.specs.declared.variables.Side.{Side}
use Rattle.recovery_sender.specs.CallReplies.{CallReply}
use Rattle.recovery_sender.specs.declared.calls.Call.{Call}
use Rattle.recovery_sender.specs.declared.calls.CallRecord.{CallRecord}

module _ {F Q R C K S M P : Type 0} {f : _} {c : _} {q : _} {m : _} {r : _} where
  -- the reply to a call, and when the loss detection timer is due then
  pub record CallOutcome (old : Sender F Q R C K S M P f c q m r) (call : Call Q S M P) (said : CallRecord Q)
      (new : Sender F Q R C K S M P f c q m r) : Type 0 where
    pub says : CallReply call old new said.reply
    pub timer : said.timer ≡ moment LossDetection (state_in new).timers

  -- it is put into a sink
  pub record CallIntoSink {T : Type 0} (takes : T → CallRecord Q → T → Type 0) (old : Sender F Q R C K S M P f c q m r)
      (before : T) (call : Call Q S M P) (new : Sender F Q R C K S M P f c q m r) (behind : T) : Type 0 where
    pub said : CallRecord Q
    pub tells : CallOutcome old call said new
    pub taken : takes before said behind

  -- calls in order, each with its reply
  abbrev pub RunsCalls : List (Call Q S M P) → List (CallRecord Q) → Sender F Q R C K S M P f c q m r
      → Sender F Q R C K S M P f c q m r → Type 0
  RunsCalls [] [] old new = new ≡ old
  RunsCalls (call ∷ calls) (said ∷ more) old new =
      (between : Sender F Q R C K S M P f c q m r) × CallOutcome old call said between
      × RunsCalls calls more between new
  RunsCalls calls said old new = ⊥

  -- these calls were given, and these replies taken
  pub record CallsOverSource (old : Sender F Q R C K S M P f c q m r) (AreGiven : List (Call Q S M P) → Type 0)
      (IsTaken : List (CallRecord Q) → Type 0) (new : Sender F Q R C K S M P f c q m r) : Type 0 where
    pub calls : List (Call Q S M P)
    pub said : List (CallRecord Q)
    pub given : AreGiven calls
    pub taken : IsTaken said
    pub runs : RunsCalls calls said old new
    pub waits : WaitsByAnswers calls said old new

  -- the calls of a list, from a new sender
  pub record IsRun (side : Side) (config : RecoveryConfig F) (start : ℕ) (random : Stream) (calls : List (Call Q S M P))
      (said : List (CallRecord Q)) (new : Sender F Q R C K S M P f c q m r) : Type 0 where
    pub first : Sender F Q R C K S M P f c q m r
    pub begins : IsNewSender side config start random first
    pub runs : RunsCalls calls said first new
    -- since when a handshake space waits for room in the window
    pub waits : WaitsByAnswers calls said first new
