-- The largest packet that a space received, by the events of its sender.
use Rattle.std.proofs.Common.{◌≡◌, Bool, true, false, List, ◌∷◌, Ok, Err, refl, ap, ◌∙◌, arith}
use Rattle.std.proofs.lemmas.Bool.Decides.{nat_tests}
use Rattle.recovery_acks.specs.Acks.{AckCounts}
use Rattle.recovery_base.specs.declared.below.SpaceId.{SpaceId}
use Rattle.recovery_events.specs.declared.event.Answer.TheVariants.{New}
use Rattle.recovery_events.specs.declared.event.Event.{Event}
use Rattle.recovery_events.specs.declared.event.Event.TheVariants.{Received}
use Rattle.recovery_spaces.specs.Acks.{counts_by}
use Rattle.recovery_spaces.specs.SpaceLog.{SpaceEntry}
use Rattle.recovery_spaces.specs.Spaces.{acks_of, space_of}
use Rattle.recovery_history.specs.History.{Beginning, History, Reply}
use Rattle.recovery_history.specs.Logs.{onto}
use Rattle.recovery_history.specs.Reachability.{ReachedBy}
use Rattle.recovery_history.specs.RecoveryState.{RecoveryState}
use Rattle.recovery_history.specs.RepliesAfter.{RepliesAfter, inputs_after, logs_of}
use Rattle.recovery_history.specs.ReplyInputs.{ReplyInputs}
use Rattle.recovery_history.specs.Table.{entries_of}
use Rattle.recovery_history.proofs.EntryKinds.{SpaceKind, hearing as hears, space_kind, space_kept}
use Rattle.recovery_history.proofs.Runs.{kept_after}
use Rattle.recovery_pair.specs.Pasts.{largest_came}

-- no new packet
abbrev is_other : SpaceKind → Bool
is_other hears = false
is_other kind = true

module _ {F K Q S M P : Type 0} (beginning : Beginning F K Q S M P) (before : History Q S M P) (space : SpaceId)
    (here : (counts_by ((logs_of beginning before).spaces space)).largest ≡ largest_came space before) where
  abbrev log : SpaceId → List (SpaceEntry P M)
  log = (logs_of beginning before).spaces

  abbrev known : ReplyInputs K P M
  known = inputs_after beginning before

  other : (entry : SpaceEntry P M) → is_other (space_kind entry) ≡ true
      → (counts_by (entry ∷ log space)).largest ≡ largest_came space before
  other entry is = grind (arith, is, here)

  reply_largest : (event : Event Q S M P) (reply : Reply Q) → RepliesAfter beginning before event reply
      → (counts_by (onto ((entries_of beginning.queue known event reply).spaces space) (log space))).largest
      ≡ largest_came space ((event, reply) ∷ before)
  reply_largest (Received there now number eliciting) (Ok (New arm)) told = grind (arith, nat_tests, here)
  reply_largest (Received there now number eliciting) (Ok answer) told = grind (arith, nat_tests, here)
  reply_largest event (Ok answer) told =
      space_kept beginning.queue known space
      (λ entry. (counts_by (onto entry (log space))).largest ≡ largest_came space before) is_other here other event
      (Ok answer) refl
  reply_largest (Received there now number eliciting) (Err refusal) told = here
  reply_largest event (Err refusal) told = here

pub largest_by : {F K Q S M P : Type 0} (beginning : Beginning F K Q S M P) (past : History Q S M P)
    (recovery : RecoveryState K P M) → ReachedBy beginning past recovery → (space : SpaceId)
    → (acks_of (space_of space recovery.spaces)).counts.largest ≡ largest_came space past
largest_by {Q = Q} {S = S} {M = M} {P = P} beginning past recovery came space =
    ap (λ (counts : AckCounts). counts.largest) (came.state_after.spaces space).acks.counts
    ∙ kept_after (RepliesAfter beginning)
    (λ (history : History Q S M P). (counts_by ((logs_of beginning history).spaces space)).largest
    ≡ largest_came space history)
    (λ before event reply told here. reply_largest beginning before space here event reply told) refl past came.replies
