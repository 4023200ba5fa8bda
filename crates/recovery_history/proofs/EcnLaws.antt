-- The ECN counts of a space are the last that the history says were accepted: the clause `ecn` of `run`.
use Rattle.std.proofs.Common.{◌≡◌, Bool, true, false, cond, List, [], ◌∷◌, None, Some, Ok, Err, refl, arith}
use Rattle.recovery_base.specs.declared.below.SpaceId.{SpaceId}
use Rattle.recovery_base.specs.declared.below.frames.EcnCounts.{EcnCounts}
use Rattle.recovery_base.specs.Spaces.{same_space}
use Rattle.recovery_spaces.specs.Queued.{queued_by}
use Rattle.recovery_spaces.specs.SpaceLog.{SpaceEntry, feeds_back}
use Rattle.recovery_events.specs.declared.event.Event.{Event}
use Rattle.recovery_events.specs.declared.event.Event.TheVariants.{Ecn}
use Rattle.recovery_events.specs.declared.event.Refusal.TheVariants as refusal
use Rattle.recovery_events.specs.declared.event.Refusal.TheVariants.{SpaceDiscarded}
use Rattle.recovery_history.specs.RepliesAfter.{logs_of, inputs_after, RepliesAfter}
use Rattle.recovery_history.specs.History.{Beginning, History, Reply}
use Rattle.recovery_history.specs.Logs.{onto}
use Rattle.recovery_history.specs.Promises.Ecn.{last_counts, ChecksEcn}
use Rattle.recovery_history.proofs.EntryKinds.{SpaceKind, counting, space_kind, space_kept}

abbrev counts_none : SpaceKind → Bool
counts_none counting = false
counts_none kind = true

module _ {F K Q S M P : Type 0} (beginning : Beginning F K Q S M P) where
  abbrev kept_counts : List (SpaceEntry P M) → EcnCounts
  kept_counts log = (queued_by beginning.queue.words log).ecn

  -- counts are accepted, in this space or in another one
  taken : (log : List (SpaceEntry P M)) (b : Bool) (counts last : EcnCounts) → kept_counts log ≡ last
      → kept_counts (onto (cond b (Some (feeds_back counts)) None) log) ≡ cond b counts last
  taken log true counts last is = refl
  taken log false counts last is = is

  -- other entries leave them unchanged
  untaken : (log : List (SpaceEntry P M)) (last : EcnCounts) → kept_counts log ≡ last → (entry : SpaceEntry P M)
      → counts_none (space_kind entry) ≡ true → kept_counts (entry ∷ log) ≡ last
  untaken log last is entry none = grind (arith, none, is)

  same_counts : (history : History Q S M P) (space : SpaceId)
      → kept_counts ((logs_of beginning history).spaces space) ≡ last_counts space history
  same_counts [] space = refl
  same_counts ((Ecn there newly counts, Ok answer) ∷ earlier) space =
      taken ((logs_of beginning earlier).spaces space) (same_space there space) counts _ (same_counts earlier space)
  same_counts ((event, Ok answer) ∷ earlier) space =
      let log = (logs_of beginning earlier).spaces space in
      let same = same_counts earlier space in
      space_kept beginning.queue (inputs_after beginning earlier) space
      (λ entry. kept_counts (onto entry log) ≡ last_counts space earlier) counts_none same
      (untaken log _ same) event (Ok answer) refl
  same_counts ((Ecn there newly counts, Err refusal) ∷ earlier) space = same_counts earlier space
  same_counts ((event, Err refusal) ∷ earlier) space = same_counts earlier space

  -- the reply to an event follows from these counts
  pub checks_ecn : (before : History Q S M P) (event : Event Q S M P) (reply : Reply Q)
      → RepliesAfter beginning before event reply → ChecksEcn before event reply
  checks_ecn before (Ecn space newly counts) (Ok given) told = rw (← same_counts before space) told.1
  checks_ecn before (Ecn space newly counts) (Err (refusal.Ecn text)) told = rw (← same_counts before space) told.1
  checks_ecn before (Ecn space newly counts) (Err SpaceDiscarded) told = tt
  checks_ecn before (Ecn space newly counts) (Err other) told = absurd told.1
  checks_ecn before event reply told = tt
