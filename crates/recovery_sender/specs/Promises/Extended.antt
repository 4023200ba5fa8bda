-- The events that explain a sender's marks, and those of a step after them, explain the marks after it. So from a new
-- sender, which has no mark, all events that led to a sender explain its marks (`persists` of `DetectsLosses`).
use Rattle.std.specs.Prelude.{◌≡◌, ℕ, List, [], ◌∷◌, ◌++◌}
use Rattle.rand_core.specs.Stream.{Stream}
use Rattle.recovery_base.specs.declared.below.SpaceId.{SpaceId}
use Rattle.recovery_congestion.specs.Controllers.{ControllerSemantics}
use Rattle.recovery_events.specs.declared.event.Event.TheVariants.{Sample}
use Rattle.recovery_paths.specs.PathStates.{PathMarks}
use Rattle.recovery_history.specs.declared.config.RecoveryConfig.{RecoveryConfig}
use Rattle.recovery_history.specs.History.{History, QueueModel, begins}
use Rattle.recovery_history.specs.Reachability.{ReachedBy}
use Rattle.recovery_history.specs.RecoveryState.{RecoveryState}
use Rattle.recovery_sender.specs.Acking.{first_marked, marks_now}
use Rattle.recovery_sender.specs.Promises.Samples.{ExplainsMarks}
use Rattle.recovery_sender.specs.Spaces.{space_in}
use Rattle.recovery_sender.specs.Steps.{SenderStep, StepsLeadTo, loss_time, marked, occurs, told}

-- no step marks a path
abbrev pub MarkNoPath : {Q S M P : Type 0} → List (SenderStep Q S M P) → Type 0
MarkNoPath [] = Unit {0}
MarkNoPath (told event reply ∷ steps) = MarkNoPath steps
MarkNoPath (occurs event ∷ steps) = MarkNoPath steps
MarkNoPath (loss_time space time ∷ steps) = MarkNoPath steps
MarkNoPath (marked marks ∷ steps) = ⊥

module _ {F K Q S M P : Type 0} (built : F → ℕ → ℕ → K) (words : ControllerSemantics K)
    (queue : QueueModel Q S M P) where
  -- some events lead on from every past that explains the old marks, and with it explain the new ones
  abbrev pub ExtendsPasts : RecoveryState K P M → RecoveryState K P M → Type 0
  ExtendsPasts old new = (config : RecoveryConfig F) (start : ℕ) (random : Stream) (past : History Q S M P) →
      let beginning = begins built words queue config start random in
      ReachedBy beginning past old → ExplainsMarks old.paths past → (events : History Q S M P)
      × ReachedBy beginning (events ++ past) new × ExplainsMarks new.paths (events ++ past)

  -- the steps by which a sender changes (`StepsLeadTo`)
  pub record StepsExtendPasts : Type 0 where
    -- events and loss times
    pub unmarked : (steps : List (SenderStep Q S M P)) (old new : RecoveryState K P M) → MarkNoPath steps
        → StepsLeadTo built words queue steps old new → ExtendsPasts old new
    -- marks with the same first packet after a sample, as for ECN and a challenge
    pub kept : (marks : PathMarks) (old new : RecoveryState K P M)
        → marks.first_after_sample ≡ old.paths.current.marks.first_after_sample
        → StepsLeadTo {Q = Q} {S = S} built words queue (marked marks ∷ []) old new → ExtendsPasts old new
    -- an RTT sample, after which the next packet is marked, if none was
    pub sampled : (space : SpaceId) (delay rtt : ℕ) (old between new : RecoveryState K P M)
        → StepsLeadTo built words queue (occurs (Sample delay rtt) ∷ []) old between
        → StepsLeadTo {Q = Q} {S = S} built words queue (first_marked between space
        (marks_now between).first_after_sample (space_in between space)) between new
        → ExtendsPasts old new
