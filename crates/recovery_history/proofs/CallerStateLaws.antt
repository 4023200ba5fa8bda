-- The caller's state of paths and spaces is unchanged by events. `StateAfterLaws` and the steps of calls rest on it.
use Rattle.std.proofs.Common.{◌≡◌, ℕ, true, false, Option, None, Some, option_map, Ok, Err, refl, ap, ◌∙◌, arith}
use Rattle.std.proofs.lemmas.Option.{none-some}
use Rattle.recovery_base.specs.declared.below.frames.EcnCounts.{EcnCounts}
use Rattle.recovery_spaces.specs.SpaceLog.{SpaceEntry}
use Rattle.recovery_spaces.specs.Spaces.{Space, SpaceStep}
use Rattle.recovery_spaces.specs.Queued.{no_ecn}
use Rattle.recovery_paths.specs.PathLog.{PerPath, paths_marks, reverted}
use Rattle.recovery_paths.specs.PathStates.{Path, PathMarks}
use Rattle.recovery_queue.specs.Queues.{QueueSemantics}
use Rattle.recovery_events.specs.declared.event.Event.{Event}
use Rattle.recovery_events.specs.declared.event.Event.TheVariants.{NewPath, DropPrevious, RevertPath}
use Rattle.recovery_events.specs.declared.event.Refusal.{Refusal}
use Rattle.recovery_history.specs.CallerState.{AreMarksFresh, caller_fields_of, unset_fields_of, HasNoLossTime}
use Rattle.recovery_history.specs.Table.{marks_after, entries_of}
use Rattle.recovery_history.specs.History.{QueueModel, Reply}
use Rattle.recovery_history.specs.ReplyInputs.{ReplyInputs}
use Rattle.recovery_history.specs.Logs.{OptionalStep}
use Rattle.recovery_history.specs.RecoveryState.{RecoveryState}
use Rattle.recovery_history.specs.Transitions.{ComponentSteps}

-- ---- paths

-- fresh marks stay fresh
pub fresh_after : {Q S M P : Type 0} (event : Event Q S M P) (reply : Reply Q) (marks : PerPath PathMarks)
    → AreMarksFresh marks → AreMarksFresh (marks_after event reply marks)
fresh_after (NewPath now remote true) (Ok given) marks fresh = grind (arith, fresh)
fresh_after (NewPath now remote false) (Ok given) marks fresh = grind (arith, fresh)
fresh_after DropPrevious (Ok given) marks fresh = grind (arith, fresh)
fresh_after RevertPath (Ok given) marks fresh = returned marks.previous fresh
  where
    with_previous : Option PathMarks → PerPath PathMarks
    with_previous previous = record marks { previous = previous }

    returned : (previous : Option PathMarks) → AreMarksFresh (with_previous previous)
        → AreMarksFresh (reverted (λ marks. marks) (with_previous previous))
    returned None fresh = fresh
    returned (Some before) fresh = (fresh.1 before refl, λ other is. absurd (none-some _ is))
fresh_after event reply marks fresh = fresh

-- a rejected event does not change them
pub marks_refused : {Q S M P : Type 0} (event : Event Q S M P) (refusal : Refusal) (marks : PerPath PathMarks)
    → marks_after {Q = Q} event (Err refusal) marks ≡ marks
marks_refused (NewPath now remote true) refusal marks = refl
marks_refused event refusal marks = refl

-- what a change does not change in a path it does not change in the previous one
pub previous_same : {A B : Type 0} (part : A → B) (change : A → A) → ((a : A) → part (change a) ≡ part a)
    → (previous : Option A) → option_map part (option_map change previous) ≡ option_map part previous
previous_same part change keeps None = refl
previous_same {A} {B} part change keeps (Some a) = ap (λ (b : B). Some b) (keeps a)

-- what does not change the marks of a path does not change those of the previous one
module _ {K : Type 0} (change : Path K → Path K) (keeps : (path : Path K) → (change path).marks ≡ path.marks) where
  pub both_marks : (current : Path K) (paths : PerPath (Path K)) → current.marks ≡ paths.current.marks
      → (let new : PerPath (Path K) = record paths {
        current = current;
        previous = option_map change paths.previous;
      } in paths_marks new) ≡ paths_marks paths
  both_marks current paths same =
      rw (same, previous_same (λ (path : Path K). path.marks) change keeps paths.previous) refl

-- ---- spaces

-- a space when it is made
pub untouched_made : (ecn : EcnCounts) (offset : ℕ) → ecn ≡ no_ecn → offset ≡ 0
    → (let found : EcnCounts × ℕ = (ecn, offset) in found) ≡ (no_ecn, 0)
untouched_made ecn offset no_counts none = cc

module _ {P M S : Type 0} (words : QueueSemantics P S) where
  -- no entry changes the caller's other fields
  beside_stays : (entry : Option (SpaceEntry P M)) (old new : Space P M) → OptionalStep (SpaceStep words) entry old new
      → caller_fields_of new ≡ caller_fields_of old
  beside_stays None old new step = ap caller_fields_of step
  beside_stays (Some entry) old new step = grind (arith, step)

  pub untouched_stays : (entry : Option (SpaceEntry P M)) (old new : Space P M) → OptionalStep
      (SpaceStep words) entry old new
      → unset_fields_of new ≡ unset_fields_of old
  untouched_stays entry old new step =
      ap (λ (all : EcnCounts × Option ℕ × ℕ). let two : EcnCounts × ℕ = (all.0, all.2) in two)
      (beside_stays entry old new step)

  pub loss_time_stays : (entry : Option (SpaceEntry P M)) (old new : Space P M) → OptionalStep
      (SpaceStep words) entry old new
      → new.loss_time ≡ old.loss_time
  loss_time_stays entry old new step = ap (λ (all : EcnCounts × Option ℕ × ℕ). all.1) (beside_stays entry old new step)

-- so no loss time is set by an event
module _ {K Q S M P : Type 0} (q : QueueModel Q S M P) where
  pub loss_times_after : (known : ReplyInputs K P M) (event : Event Q S M P) (reply : Reply Q)
      (old new : RecoveryState K P M)
      → ComponentSteps q.words (entries_of q known event reply) old new → HasNoLossTime old.spaces
      → HasNoLossTime new.spaces
  loss_times_after known event reply old new steps none = λ space.
      loss_time_stays q.words ((entries_of q known event reply).spaces space) _ _ (steps.spaces space) ∙ none space
