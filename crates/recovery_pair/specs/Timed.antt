-- The loss detection timer of each endpoint follows the events of its sender (RFC 9002, 6.2.1, 6.2.2.1 and A.8). While
-- an ack-eliciting packet is outstanding and a byte may be sent, the timer is set in time. What the sender knows of the
-- handshake follows from the steps and answers (`Known`).
use Rattle.std.specs.Prelude.{◌≡◌}
use Rattle.recovery_sender.specs.declared.sender.Sender.{Sender}
use Rattle.recovery_sender.specs.Promises.Liveness.{IsTimerByEvents}
use Rattle.recovery_sender.specs.Promises.Pasts.{ForEveryRun}
use Rattle.recovery_sender.specs.Senders.{state_in}
use Rattle.recovery_sender.specs.Timer.{TimerIsSet}
use Rattle.recovery_pair.specs.declared.steps.End.{End}
use Rattle.recovery_pair.specs.declared.steps.End.TheVariants.{Client, Server}
use Rattle.recovery_pair.specs.AddressKnown.{Known, known_after, known_of}
use Rattle.recovery_pair.specs.Logs.{PairEvent}

module _ {F Q R C K S M P : Type 0} {f : _} {c : _} {q : _} {m : _} {r : _} where
  abbrev pub HasTimerByEvents : Sender F Q R C K S M P f c q m r → Type 0
  HasTimerByEvents sender =
      ForEveryRun sender (λ beginning past. IsTimerByEvents beginning past (state_in sender) sender.variables)

  -- it is set to what is due (RFC 9002, A.8), and the sender knows this of the handshake
  abbrev pub IsTimedAs : Known → Sender F Q R C K S M P f c q m r → Type 0
  IsTimedAs known sender = HasTimerByEvents sender × (known_of sender.variables ≡ known)
      × TimerIsSet (state_in sender) sender.variables

  -- it is still so after a call, by which the sender learns this
  abbrev pub KeepsTimerAs : (Known → Known) → Sender F Q R C K S M P f c q m r → Sender F Q R C K S M P f c q m r
      → Type 0
  KeepsTimerAs after old new = (known : Known) → IsTimedAs known old → IsTimedAs (after known) new

  -- and no more than before
  abbrev pub KeepsTimer : Sender F Q R C K S M P f c q m r → Sender F Q R C K S M P f c q m r → Type 0
  KeepsTimer = KeepsTimerAs (λ known. known)

  -- both endpoints
  abbrev pub AreTimedAs : (End → Known) → Sender F Q R C K S M P f c q m r → Sender F Q R C K S M P f c q m r → Type 0
  AreTimedAs known client server = IsTimedAs (known Client) client × IsTimedAs (known Server) server

  -- they still are so after a step
  abbrev pub KeepsTimers : PairEvent → Sender F Q R C K S M P f c q m r → Sender F Q R C K S M P f c q m r
      → Sender F Q R C K S M P f c q m r → Sender F Q R C K S M P f c q m r → Type 0
  KeepsTimers event client server client_after server_after = (known : End → Known) → AreTimedAs known client server
      → AreTimedAs (λ end. known_after end event (known end)) client_after server_after
