-- What each event may be to the paths. `DatagramLaws`, `PacingLaws` and `SearchLaws` rest on it.
use Rattle.std.proofs.Common.{arith, ℕ, ◌≡◌, Bool, true, false, cond, Option, None, Ok, Err, refl}
use Rattle.std.proofs.lemmas.Bool.{false_from_ne_true}
use Rattle.recovery_base.specs.declared.below.SpaceId.{SpaceId}
use Rattle.recovery_congestion.specs.Controllers.{ControllerSemantics}
use Rattle.recovery_spaces.specs.Acks.{AckState}
use Rattle.recovery_mtud.specs.Discovery.{is_searching_of}
use Rattle.recovery_mtud.specs.DiscoveryLog.{is_limited}
use Rattle.recovery_paths.specs.declared.path_pair.PathName.TheVariants.{Current, Previous}
use Rattle.recovery_paths.specs.PathLog.{PerPath, PathReplyInputs, PathsEntry, paths_after, path_known_with, known_following, on, receives, searches}
use Rattle.recovery_paths.specs.PathMaking.{PathSettings}
use Rattle.recovery_paths.proofs.AllowedLaws.{AreAllowed, IsAllowedOn}
use Rattle.recovery_events.specs.declared.event.Event.{Event}
use Rattle.recovery_events.specs.declared.event.Event.TheVariants.{PeerLimit, Transmit}
use Rattle.recovery_events.specs.declared.event.Answer.{Answer}
use Rattle.recovery_events.specs.declared.event.Answer.TheVariants.{Transmitted, Delayed, Blocked}
use Rattle.recovery_history.specs.Table.{answered, entries_of, ReplyTable}
use Rattle.recovery_history.specs.History.{QueueModel, Reply}
use Rattle.recovery_history.specs.ReplyInputs.{ReplyInputs}
use Rattle.recovery_history.specs.PartReplies.{delayed_or}
use Rattle.recovery_history.proofs.EntryKinds.{PathKind, passing, limiting, elsewhere, path_kind, paths_kept}

-- what was transmitted was not blocked or delayed
pub sent_freely : {K Q : Type 0} (words : ControllerSemantics K) (blocked : Bool) (delay : Option ℕ)
    → (let t : Answer Q = Transmitted in t ≡ cond blocked Blocked (delayed_or words t delay)) → (blocked ≡ false)
    × (delay ≡ None)
sent_freely words blocked delay is = grind (arith, is)

-- nothing passes, and no limit is reported to a search
abbrev is_free : PathKind → Bool
is_free passing = false
is_free limiting = false
is_free elsewhere = false
is_free kind = true

module _ {K : Type 0} (settings : PathSettings K) where
  free_on : (entry : PathsEntry) → is_free (path_kind entry) ≡ true → (now : PerPath (PathReplyInputs K))
      → IsAllowedOn settings now entry
  free_on (on Current (searches (is_limited limit))) free now = absurd cc
  free_on (on Previous (receives bytes)) free now = tt
  free_on entry free now = grind (arith, free)

module _ {K Q S M P : Type 0} (q : QueueModel Q S M P) (settings : PathSettings K) (heard : SpaceId
    → AckState) (known : ReplyInputs K P M) where
  answer_allowed : (event : Event Q S M P) (answer : Answer Q) → ReplyTable q settings.words heard known event
      (Ok answer)
      → AreAllowed settings known.paths (answered q known event answer).paths
  answer_allowed (Transmit now bytes true) Transmitted told =
      ((sent_freely settings.words _ _ told.1).1, tt)
  answer_allowed (Transmit now bytes true) (Delayed until) told = (tt, tt)
  answer_allowed (Transmit now bytes true) answer told = tt
  answer_allowed (Transmit now bytes false) answer told = (tt, tt)
  answer_allowed (PeerLimit size) answer told =
      (false_from_ne_true (is_searching_of known.paths.current.state.discovery) told.1.0, tt)
  answer_allowed event answer told =
      paths_kept q known (AreAllowed settings known.paths) is_free tt
      (λ entry earlier free allowed. (
        free_on settings entry free
            (paths_after (path_known_with settings) (known_following settings) earlier known.paths),
        allowed,
      ))
      event (Ok answer) refl

  -- the entries of an event in the paths, by its reply
  pub is_allowed : (event : Event Q S M P) (reply : Reply Q) → ReplyTable q settings.words heard known event reply
      → AreAllowed settings known.paths (entries_of q known event reply).paths
  is_allowed event (Ok answer) told = answer_allowed event answer told
  is_allowed event (Err refusal) told = tt
