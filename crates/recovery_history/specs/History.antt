-- The history of a run: the events with their replies, the newest first.
use Rattle.std.specs.Prelude.{◌≡◌, ℕ, List, [], ◌∷◌, length, reverse, Result, IfOk}
use Rattle.std.specs.Global.{Vec}
use Rattle.std.specs.List.{zip}
use Rattle.rand_core.specs.Stream.{Stream}
use Rattle.recovery_congestion.specs.Controllers.{ControllerSemantics}
use Rattle.recovery_queue.specs.Queues.{QueueSemantics}
use Rattle.recovery_history.specs.declared.config.RecoveryConfig.{RecoveryConfig}
use Rattle.recovery_events.specs.declared.event.Event.{Event}
use Rattle.recovery_events.specs.declared.event.Answer.{Answer}
use Rattle.recovery_events.specs.declared.event.Refusal.{Refusal}

-- the contents of packets' queues, and what each call does to them. Q is the queue, S the argument of its test for
-- emptiness, M what the caller stores about a packet, and P the contents in contracts.
pub record QueueModel (Q S M P : Type 0) : Type 0 where
  pub contents : Q → P
  pub words : QueueSemantics P S
  -- what is stored about a packet if the caller stores nothing
  pub blank : M

abbrev pub queue_model : {Q S M P : Type 0} → (Q → P) → QueueSemantics P S → M → QueueModel Q S M P
queue_model contents words blank = record { contents = contents; words = words; blank = blank }

-- how a run begins: its settings and its start time. F is the factory of controllers, and K the value of a controller
-- in contracts. How one is built, and what each call does to it, are the implementation's own functions.
pub record Beginning (F K Q S M P : Type 0) : Type 0 where
  pub config : RecoveryConfig F
  pub start : ℕ
  pub built : F → ℕ → ℕ → K
  pub words : ControllerSemantics K
  -- the contents of queues, and what each call does to them
  pub queue : QueueModel Q S M P
  -- the random words of the generator that draws skipped numbers
  pub random : Stream

abbrev pub begins : {F K Q S M P : Type 0} → (F → ℕ → ℕ → K) → ControllerSemantics K → QueueModel Q S M P
    → RecoveryConfig F → ℕ → Stream → Beginning F K Q S M P
begins built words queue config start random =
    record { config = config; start = start; built = built; words = words; queue = queue; random = random }

-- an answer or an error
abbrev pub Reply : Type 0 → Type 0
Reply Q = Result (Answer Q) Refusal

abbrev pub History : (Q S M P : Type 0) → Type 0
History Q S M P = List (Event Q S M P × Reply Q)

module _ {Q S M P : Type 0} where
  -- the events with their replies, the newest first
  abbrev pub history : List (Event Q S M P) → List (Reply Q) → History Q S M P
  history events replies = reverse (zip events replies)

  -- Holds is true for the history before each event, the event and its reply
  abbrev pub AtEach : (History Q S M P → Event Q S M P → Reply Q → Type 0) → History Q S M P → Type 0
  AtEach Holds [] = Unit {0}
  AtEach Holds (happened ∷ before) = Holds before happened.0 happened.1 × AtEach Holds before

  -- each event has one reply, and Holds is true at each
  abbrev pub Throughout : (History Q S M P → Event Q S M P → Reply Q → Type 0) → List (Event Q S M P) → List (Reply Q)
      → Type 0
  Throughout Holds events replies = (length replies ≡ length events) × AtEach Holds (history events replies)

  -- if a run returns `Ok`, this holds for the replies that it returns
  abbrev pub Always : {T E : Type 0} → Vec (Event Q S M P) → Result (T × Vec (Reply Q)) E
      → (History Q S M P → Event Q S M P → Reply Q → Type 0) → Type 0
  Always events result Holds = IfOk result (λ run. Throughout Holds events.items run.1.items)
