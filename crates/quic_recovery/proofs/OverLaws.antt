-- Laws of all events that a source gives: `run_over` and `run` rest on them.
use Rattle.std.proofs.Common.{◌≡◌, ◌≤◌, arith, ℕ, List, [], ◌∷◌, ◌++◌, length, vec_capacity, Result, Ok, Err, IfOk, refl, ap, sym, subst, ◌∙◌}
use Rattle.std.specs.Global.{Vec}
use Rattle.std.proofs.lemmas.List.{append-nil, append_assoc}
use Rattle.rand_core.specs.Stream.{Stream}
use Rattle.recovery_congestion.specs.Controllers.{ControllerSemantics}
use Rattle.recovery_paths.specs.PathLog.{PerPath, paths_marks}
use Rattle.recovery_paths.specs.PathStates.{PathMarks}
use Rattle.recovery_events.specs.declared.event.Event.{Event}
use Rattle.recovery_history.specs.declared.config.RecoveryConfig.{RecoveryConfig}
use Rattle.recovery_history.specs.CallerState.{AreMarksFresh, HasNoLossTime}
use Rattle.recovery_events.specs.Feeding.{PushesInto, TakesAll}
use Rattle.recovery_history.specs.History.{Beginning, QueueModel, Reply, begins, history, Throughout}
use Rattle.quic_recovery.specs.Over.{RunOverSource}
use Rattle.recovery_history.specs.RecoveryState.{RecoveryState}
use Rattle.recovery_history.specs.Reachability.{ReachedBy, StepFromAnyPast, StepFromPast, StepGuarantees}
use Rattle.recovery_history.specs.Transitions.{StateTransition, inputs_of}
use Rattle.recovery_history.specs.StateAfter.{StateAfter}
use Rattle.recovery_history.proofs.CallerStateLaws.{fresh_after, loss_times_after}
use Rattle.recovery_events.proofs.FeedingLaws.{fills, takes_push}
use Rattle.recovery_history.proofs.Runs.{after_push, throughout_more}

-- a sink of events that makes a step for each, and puts its reply into a sink of replies, made all the steps
module _ {F K Q S M P T A : Type 0} (built : F → ℕ → ℕ → K) (words : ControllerSemantics K) (queue : QueueModel Q S M P)
    (config : RecoveryConfig F) (start : ℕ) (random : Stream)
    (took : A → Event Q S M P → A → Type 0) (takes : T → Reply Q → T → Type 0)
    (recovery_of : A → RecoveryState K P M) (sink_of : A → T)
    (each : (old : A) (event : Event Q S M P) (new : A) → took old event new → (reply : Reply Q)
    × StateTransition queue (recovery_of old) event reply (recovery_of new)
    × StepFromAnyPast built words queue (recovery_of old) event reply (recovery_of new)
    × takes (sink_of old) reply (sink_of new))
    (first : T) where
  abbrev by : Beginning F K Q S M P
  by = begins built words queue config start random

  goes_over : (todo done : List (Event Q S M P)) (replies : List (Reply Q)) (old new : A)
      → TakesAll took old todo new → Throughout (StepGuarantees by) done replies
      → ReachedBy by (history done replies) (recovery_of old) → TakesAll takes first replies (sink_of old)
      → AreMarksFresh (paths_marks (recovery_of old).paths) → HasNoLossTime (recovery_of old).spaces
      → RunOverSource by (λ all. all ≡ done ++ todo) (λ all. TakesAll takes first all (sink_of new)) (recovery_of new)
  goes_over [] done replies old new is keeps came given marks times = rw is (record {
    events = done;
    replies = replies;
    given = sym (append-nil done);
    taken = given;
    keeps = keeps;
    came = came;
    marks = marks;
    loss_times = times;
  })
  goes_over (event ∷ todo) done replies old new is keeps came given marks times =
      let between = is.0 in
      let one = each old event between is.1 in
      let reply = one.0 in
      let on : StepFromPast by (history done replies) event reply (recovery_of between) =
      one.2 config start random (history done replies) came in
      let rest = goes_over todo (done ++ event ∷ []) (replies ++ reply ∷ []) between new is.2
      (throughout_more (StepGuarantees by) event reply done replies _ keeps refl on.keeps)
      (after_push (StepGuarantees by) event reply (λ past. ReachedBy by past (recovery_of between)) done replies _
      keeps refl
      on.came)
      (takes_push takes first replies (sink_of old) reply (sink_of between) given one.3)
      (let Fresh : PerPath PathMarks → Type 0 = AreMarksFresh in subst Fresh (sym one.1.marks)
      (fresh_after event reply _ marks))
      (loss_times_after queue (inputs_of (recovery_of old)) event reply _ _ one.1.steps times) in
      record {
        events = rest.events;
        replies = rest.replies;
        given = rest.given ∙ append_assoc done (event ∷ []) todo;
        taken = rest.taken;
        keeps = rest.keeps;
        came = rest.came;
        marks = rest.marks;
        loss_times = rest.loss_times;
      }

  pub runs_from : (events : List (Event Q S M P)) (old new : A) → TakesAll took old events new
      → ReachedBy by [] (recovery_of old) → AreMarksFresh (paths_marks (recovery_of old).paths)
      → HasNoLossTime (recovery_of old).spaces → first ≡ sink_of old
      → (AreGiven : List (Event Q S M P) → Type 0) → AreGiven events
      → RunOverSource by AreGiven (λ all. TakesAll takes first all (sink_of new)) (recovery_of new)
  runs_from events old new is came marks times begins AreGiven given =
      let over = goes_over events [] [] old new is (refl, tt) came (sym begins) marks times in
      record {
        events = over.events;
        replies = over.replies;
        given = subst AreGiven (sym over.given) given;
        taken = over.taken;
        keeps = over.keeps;
        came = over.came;
        marks = over.marks;
        loss_times = over.loss_times;
      }

-- ---- two lists

module _ {F K Q S M P : Type 0} (beginning : Beginning F K Q S M P) (events : List (Event Q S M P))
    (room : Vec (Reply Q)) (none : room.items ≡ []) (fits : length events ≤ vec_capacity room) where
  abbrev IsOver : RecoveryState K P M → Vec (Reply Q) → Type 0
  IsOver recovery new = RunOverSource beginning (λ all. all ≡ events) (λ all. TakesAll PushesInto room all new) recovery

  -- each event of one list has its reply in the other, if that had room
  all_pushed : (recovery : RecoveryState K P M) (new : Vec (Reply Q)) (over : IsOver recovery new) → over.replies
      ≡ new.items
  all_pushed recovery new over =
      let even = over.keeps.0 in
      let same = ap (λ l. length l) over.given in
      let empty = ap (λ l. length l) none in
      sym (fills room new over.replies over.taken (omega (arith, even, same, fits, empty))
      ∙ ap (λ l. l ++ over.replies) none)

  of_lists : (recovery : RecoveryState K P M) (new : Vec (Reply Q))
      (Holds : List (Event Q S M P) → List (Reply Q) → Type 0)
      (over : IsOver recovery new) → Holds over.events over.replies → Holds events new.items
  of_lists recovery new Holds over here =
      subst (λ all. Holds all new.items) over.given
      (subst (λ all. Holds over.events all) (all_pushed recovery new over) here)

  -- so the promises of a run hold for the two lists
  pub over_lists : {T E : Type 0} (recovery_of : T → RecoveryState K P M) (result : Result (T × Vec (Reply Q)) E)
      → IfOk result (λ run. IsOver (recovery_of run.0) run.1)
      → IfOk result (λ run. Throughout (StepGuarantees beginning) events run.1.items)
      × IfOk result (λ run. StateAfter beginning (history events run.1.items) (recovery_of run.0))
      × IfOk result (λ run. AreMarksFresh (paths_marks (recovery_of run.0).paths))
  over_lists recovery_of (Ok run) over = (
    of_lists (recovery_of run.0) run.1 (Throughout (StepGuarantees beginning)) over over.keeps,
    of_lists (recovery_of run.0) run.1 (λ given taken. StateAfter beginning (history given taken) (recovery_of run.0))
        over
        (record { parts = over.came.state_after; loss_times = over.loss_times }),
    over.marks,
  )
  over_lists recovery_of (Err error) over = (tt, tt, tt)
