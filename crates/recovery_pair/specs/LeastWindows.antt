-- Persistent congestion (RFC 9002, 7.6.2): a step that reports it to an endpoint leaves this endpoint with the smallest
-- window of its controller.
use Rattle.std.specs.Prelude.{◌≡◌, ◌&&◌, Bool, true, false, Result, Ok}
use Rattle.recovery_sender.specs.Bounds.{IsWindowLeast}
use Rattle.recovery_sender.specs.Senders.{state_in}
use Rattle.recovery_sender.specs.declared.sender.Sender.{Sender}
use Rattle.recovery_sender.specs.declared.sender.SenderError.{SenderError}
use Rattle.recovery_sender.specs.declared.sender.probes.Timeout.{Timeout}
use Rattle.recovery_sender.specs.declared.sender.probes.Timeout.TheVariants.{Lost}
use Rattle.recovery_pair.specs.declared.steps.AckOutcome.{AckOutcome}
use Rattle.recovery_pair.specs.declared.steps.AckOutcome.TheVariants.{Taken}
use Rattle.recovery_pair.specs.declared.steps.End.{End}
use Rattle.recovery_pair.specs.declared.steps.End.TheVariants.{Client, Server}
use Rattle.recovery_pair.specs.declared.steps.Fate.{Fate}
use Rattle.recovery_pair.specs.declared.steps.Fate.TheVariants.{New}
use Rattle.recovery_pair.specs.declared.steps.PairAnswer.{PairAnswer}
use Rattle.recovery_pair.specs.declared.steps.PairAnswer.TheVariants.{Arrived, Expired}
use Rattle.recovery_pair.specs.declared.steps.PairStep.TheVariants.{Arrive, Local}
use Rattle.recovery_pair.specs.Logs.{PairEvent, same_end}

-- persistent congestion is reported
abbrev pub persists_by_ack : AckOutcome → Bool
persists_by_ack (Taken acked) = acked.losses.is_persistent
persists_by_ack outcome = false

abbrev pub persists_by_fate : Result Fate SenderError → Bool
persists_by_fate (Ok (New items acked)) = persists_by_ack acked
persists_by_fate fate = false

abbrev pub persists_by_timeout : Result Timeout SenderError → Bool
persists_by_timeout (Ok (Lost space losses)) = losses.is_persistent
persists_by_timeout timeout = false

abbrev pub persists_by_timer : Result PairAnswer SenderError → Bool
persists_by_timer (Ok (Expired timeout)) = persists_by_timeout (Ok timeout)
persists_by_timer answer = false

-- and it is, to this endpoint, by a step
abbrev pub persists_at : End → PairEvent → Bool
persists_at end (Arrive at now, Ok (Arrived to space number size fate)) =
    same_end to end && persists_by_fate (Ok fate)
persists_at end (Local at step, answer) = same_end at end && persists_by_timer answer
persists_at end event = false

module _ {F Q R C K S M P : Type 0} {f : _} {c : _} {q : _} {m : _} {r : _} where
  abbrev pub KeepsLeastWindow : Sender F Q R C K S M P f c q m r → Sender F Q R C K S M P f c q m r → Type 0
  KeepsLeastWindow old new = IsWindowLeast c.words (state_in old) → IsWindowLeast c.words (state_in new)

  abbrev pub IsLeastIf : Bool → Sender F Q R C K S M P f c q m r → Type 0
  IsLeastIf persistent sender = persistent ≡ true → IsWindowLeast c.words (state_in sender)

  abbrev pub AreLeastAfter : PairEvent → Sender F Q R C K S M P f c q m r → Sender F Q R C K S M P f c q m r → Type 0
  AreLeastAfter event client server =
      IsLeastIf (persists_at Client event) client × IsLeastIf (persists_at Server event) server
