-- What holds for each step holds for all that a source gives.
use Rattle.std.proofs.Common.{◌≡◌, ℕ, Bool, List, [], ◌∷◌, Result, refl, ap}
use Rattle.recovery_events.specs.Feeding.{TakesAll}
use Rattle.recovery_sender.specs.declared.sender.Sender.{Sender}
use Rattle.recovery_sender.specs.declared.sender.SenderError.{SenderError}
use Rattle.recovery_pair.specs.declared.endpoint.Waiting.{Waiting}
use Rattle.recovery_pair.specs.declared.steps.End.{End}
use Rattle.recovery_pair.specs.declared.steps.PairAnswer.{PairAnswer}
use Rattle.recovery_pair.specs.declared.steps.PairStep.{PairStep}
use Rattle.recovery_pair.specs.declared.steps.WirePacket.{WirePacket}
use Rattle.recovery_pair.specs.AddressKnown.{Known, KnowsWithCause, known_first, known_from}
use Rattle.recovery_pair.specs.Logs.{PairLog}
use Rattle.recovery_pair.specs.Runs.{HoldAlong, PairStepIntoSink, StepsOverSource, log_after}
use Rattle.recovery_pair.specs.Tied.{IsTied}
use Rattle.recovery_pair.specs.Timed.{AreTimedAs}
use Rattle.recovery_pair.specs.Trips.{FallAlong}
use Rattle.recovery_pair.proofs.DeadlockLaws.{never_both, timed_at_both}
use Rattle.recovery_pair.proofs.KnownLaws.{cause_kept}
use Rattle.recovery_pair.proofs.TripLaws.{falls_apart}

-- what a client knows has a cause after all steps
cause_along : (validated : Bool) (steps : List PairStep) (answers : List (Result PairAnswer SenderError))
    (log : PairLog) → HoldAlong validated log steps answers → KnowsWithCause log
    → KnowsWithCause (log_after log steps answers)
cause_along validated [] answers log holds cause = cause
cause_along validated (step ∷ steps) [] log holds cause = cause
cause_along validated (step ∷ steps) (answer ∷ answers) log holds cause =
    cause_along validated steps answers ((step, answer) ∷ log) holds.1
    (cause_kept log (step, answer) holds.0.delivered cause)

module _ {F Q R C K S M : Type 0} {f : _} {c : _} {q : _} {m : _} {r : _} {A T : Type 0}
    (takes : T → Result PairAnswer SenderError → T → Type 0) (took : A → PairStep → A → Type 0)
    (client server : A → Sender F Q R C K S M (List ℕ) f c q m r) (wire : A → List WirePacket)
    (client_waits server_waits : A → List Waiting) (sink : A → T)
    (each : (old : A) (step : PairStep) (new : A) → took old step new
    → PairStepIntoSink (client old) (server old) (wire old) (client_waits old) (server_waits old) takes (sink old) step
    (client new) (server new) (wire new) (client_waits new) (server_waits new) (sink new)) where
  abbrev Along : List PairStep → List (Result PairAnswer SenderError) → A → A → Type 0
  Along steps answers old new = (validated : Bool) (log : PairLog)
      → IsTied validated log (client old) (server old) (wire old) (client_waits old) (server_waits old)
      → (HoldAlong validated log steps answers
      × FallAlong log steps answers (client old) (server old) (client new) (server new))
      × IsTied validated (log_after log steps answers) (client new) (server new) (wire new) (client_waits new)
      (server_waits new)

  abbrev TimersAlong : List PairStep → List (Result PairAnswer SenderError) → A → A → Type 0
  TimersAlong steps answers old new = (first : End → Known) (log : PairLog)
      → AreTimedAs (λ end. known_from end (first end) log) (client old) (server old)
      → AreTimedAs (λ end. known_from end (first end) (log_after log steps answers)) (client new) (server new)

  same_along : (old new : A) → new ≡ old → Along [] [] old new
  same_along old new same validated log tied = rw same ((tt, (refl, refl)), tied)

  along : (steps : List PairStep) (old new : A) → TakesAll took old steps new
      → (answers : List (Result PairAnswer SenderError)) × TakesAll takes (sink old) answers (sink new)
      × Along steps answers old new × TimersAlong steps answers old new
  along [] old new is = ([], ap sink is, same_along old new is, λ first log have. rw is have)
  along (step ∷ steps) old new is =
      let one = each old step is.0 is.1 in
      let rest = along steps is.0 new is.2 in (
        one.answer ∷ rest.0,
        (sink is.0, one.taken, rest.1),
        λ validated log tied. (
            let now = one.keeps validated log tied in
            let later = rest.2 validated ((step, one.answer) ∷ log) now.1 in
            (((now.0.0, later.0.0), (client is.0, server is.0, now.0.1, later.0.1)), later.1)),
        λ first log have. rest.3 first ((step, one.answer) ∷ log)
            (one.timer_set (λ end. known_from end (first end) log) have),
      )

  pub along_source : (AreGiven : List PairStep → Type 0) (steps : List PairStep) (old new : A) → AreGiven steps
      → TakesAll took old steps new
      → StepsOverSource (client old) (server old) (wire old) (client_waits old) (server_waits old) AreGiven
      (λ all. TakesAll takes (sink old) all (sink new)) (client new) (server new) (wire new) (client_waits new)
      (server_waits new)
  along_source AreGiven steps old new given is =
      let all = along steps old new is in
      record {
        steps = steps;
        answers = all.0;
        given = given;
        taken = all.1;
        keeps = λ validated log tied. (let held = all.2 validated log tied in (held.0.0, held.1));
        falls = λ validated log tied. (all.2 validated log tied).0.1;
        apart = λ by_recovery log time order end along. falls_apart end _ _ by_recovery time log steps all.0 _ _ along
            order;
        timer_set = all.3;
        unstuck = λ validated log tied have. timed_at_both _ _ _ _ _ validated (log_after log steps all.0)
            (all.2 validated log tied).1 (all.3 known_first log have);
        both = λ validated log tied have cause. never_both validated (log_after log steps all.0) _ _
            (cause_along validated steps all.0 log (all.2 validated log tied).0.0 cause)
            (timed_at_both _ _ _ _ _ validated (log_after log steps all.0)
            (all.2 validated log tied).1 (all.3 known_first log have));
      }
