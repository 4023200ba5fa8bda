-- Pacing throughout a run (RFC 9002, 7.7): which calls are delayed and until when, and the rate of what is sent. Both
-- are stated without premise for the bytes that tokens pay for. They are also stated for all bytes sent, if all
-- transmissions since the pacer was made were checked, at windows below 2^32 bytes and RTTs above zero.
use Rattle.std.specs.Prelude.{ℕ, true, ◌∷◌, Option, None, Some, Ok}
use Rattle.recovery_congestion.specs.PacerLog.{asked, AreChecked, DelaysBy, KeepsRate}
use Rattle.recovery_congestion.specs.Pacing.{PacerCall}
use Rattle.recovery_congestion.specs.ReportedTime.{PassesAtMoment}
use Rattle.recovery_congestion.specs.PaidLog.{DelaysUncovered, PaysInFull, PaysRate}
use Rattle.recovery_congestion.specs.Progress.{PassesBehind}
use Rattle.recovery_paths.specs.PathLog.{OnEachPath, PathHistory, path_state_of}
use Rattle.recovery_paths.specs.PathStates.{pacer_call}
use Rattle.recovery_events.specs.declared.event.Event.{Event}
use Rattle.recovery_events.specs.declared.event.Event.TheVariants.{Transmit, PacerCheck}
use Rattle.recovery_events.specs.declared.event.Answer.{Answer}
use Rattle.recovery_events.specs.declared.event.Answer.TheVariants.{Delayed, Blocked}
use Rattle.recovery_history.specs.RepliesAfter.{pasts_of}
use Rattle.recovery_history.specs.History.{Beginning, History, Reply}

-- a call of a path's pacer is answered by the balance: it is delayed until this time, or it is not
abbrev pub IsByBalance : {K : Type 0} → PathHistory K → PacerCall → Option ℕ → Type 0
IsByBalance past call given = AreChecked (asked call ∷ past.pacing) → DelaysBy past.kept.pacer past.pacing call given

-- until when the answer delays, if it does
abbrev pub delay_in : {Q : Type 0} → Answer Q → Option ℕ
delay_in (Delayed until) = Some until
delay_in answer = None

module _ {F K Q S M P : Type 0} (beginning : Beginning F K Q S M P) where
  -- this holds for the pacer of the path in use, a call of it with these bytes, and its delay
  abbrev pub AtPacerCall : (PathHistory K → PacerCall → Option ℕ → Type 0) → History Q S M P → ℕ → ℕ → Option ℕ → Type 0
  AtPacerCall Holds history now bytes given =
      let past = (pasts_of beginning history).current in
      Holds past (pacer_call beginning.words (path_state_of past) now bytes) given

  -- the pacer of the path in use is called if an event asks it, and for a checked transmission that is not blocked
  abbrev pub AtPacerCalls : (PathHistory K → PacerCall → Option ℕ → Type 0) → History Q S M P → Event Q S M P → Reply Q
      → Type 0
  AtPacerCalls Holds history (PacerCheck now bytes) (Ok answer) = AtPacerCall Holds history now bytes (delay_in answer)
  AtPacerCalls Holds history (Transmit now bytes true) (Ok Blocked) = Unit {0}
  AtPacerCalls Holds history (Transmit now bytes true) (Ok answer) = AtPacerCall Holds history now bytes
      (delay_in answer)
  AtPacerCalls Holds history event reply = Unit {0}

  abbrev pub DelaysByBalance : History Q S M P → Event Q S M P → Reply Q → Type 0
  DelaysByBalance = AtPacerCalls IsByBalance

  -- what was delayed when the pacer was asked last passes soon after the reported time
  abbrev pub PassesAfterDelay : History Q S M P → Event Q S M P → Reply Q → Type 0
  PassesAfterDelay = AtPacerCalls (λ past. PassesBehind past.kept.pacer past.pacing)

  -- what was delayed passes at the reported time, if the bucket has room for the cost of rounding and of calls in
  -- between
  abbrev pub PassesAtReportedTime : History Q S M P → Event Q S M P → Reply Q → Type 0
  PassesAtReportedTime = AtPacerCalls (λ past. PassesAtMoment past.kept.pacer past.pacing)

  -- after an event, the pacer of each existing path observes the rate
  abbrev pub BoundsPacingRate : History Q S M P → Event Q S M P → Reply Q → Type 0
  BoundsPacingRate history event reply = OnEachPath (λ past. AreChecked past.pacing
      → KeepsRate past.kept.pacer past.pacing)
      (pasts_of beginning ((event, reply) ∷ history))

  -- ---- without premise

  -- a call is delayed exactly if the balance of paid bytes does not cover it
  abbrev pub DelaysExactly : History Q S M P → Event Q S M P → Reply Q → Type 0
  DelaysExactly = AtPacerCalls (λ past. DelaysUncovered past.kept.pacer past.pacing)

  -- a paced call that passes is paid for in full; after an event, the pacer of each existing path pays within its rate
  abbrev pub BoundsPaidRate : History Q S M P → Event Q S M P → Reply Q → Type 0
  BoundsPaidRate history event reply = AtPacerCalls (λ past. PaysInFull past.kept.pacer past.pacing) history event reply
      × OnEachPath (λ past. PaysRate past.kept.pacer past.pacing) (pasts_of beginning ((event, reply) ∷ history))
