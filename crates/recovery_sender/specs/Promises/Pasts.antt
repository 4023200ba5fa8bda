-- The past of a sender: the events, with their replies, by which the state of its recovery was reached.
use Rattle.std.specs.Prelude.{ℕ}
use Rattle.rand_core.specs.Stream.{Stream}
use Rattle.recovery_history.specs.declared.config.RecoveryConfig.{RecoveryConfig}
use Rattle.recovery_history.specs.History.{Beginning, History, begins, queue_model}
use Rattle.recovery_history.specs.Reachability.{ReachedBy}
use Rattle.recovery_sender.specs.declared.sender.Sender.{Sender}
use Rattle.recovery_sender.specs.Promises.Samples.{ExplainsMarks}
use Rattle.recovery_sender.specs.Senders.{state_in}

module _ {F Q R C K S M P : Type 0} {f : _} {c : _} {q : _} {m : _} {r : _} (sender : Sender F Q R C K S M P f c q m r)
  where
    -- it holds for every beginning and every list of events by which the sender's state may have been reached; one
    -- exists (`LiveRecovery`), and each call states its further events (`StepsLeadTo`)
    abbrev pub ForEveryRun : (Beginning F K Q S M P → History Q S M P → Type 0) → Type 0
    ForEveryRun Holds = (config : RecoveryConfig F) (start : ℕ) (random : Stream) (past : History Q S M P)
        → (let beginning = begins f.built c.words (queue_model q.contents q.words q.blank) config start random in
        ReachedBy beginning past (state_in sender) → Holds beginning past)

    -- for every beginning
    abbrev pub ForEveryPast : (History Q S M P → Type 0) → Type 0
    ForEveryPast Holds = ForEveryRun (λ beginning past. Holds past)

    -- for every such past that explains the sender's marks; one exists (`explained`), and each step of a sender extends
    -- it (`past_explains_marks`)
    abbrev pub ForEveryExplainedPast : (History Q S M P → Type 0) → Type 0
    ForEveryExplainedPast Holds = ForEveryPast (λ past. ExplainsMarks (state_in sender).paths past → Holds past)
