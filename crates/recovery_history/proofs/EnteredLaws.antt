-- The entries of each event in the search of the path in use follow from its answer. `SearchSteps` continue from it.
use Rattle.std.proofs.Common.{arith, ℕ, ◌≡◌, Bool, true, false, List, [], ◌∷◌, ◌++◌, Option, None, Some, Ok, Err, refl, ◌∙◌}
use Rattle.std.specs.Prelude.{option_map}
use Rattle.std.proofs.lemmas.Bool.{false≢true}
use Rattle.recovery_base.specs.declared.below.SpaceId.TheVariants as space
use Rattle.recovery_mtud.specs.Discovery.{poll_of}
use Rattle.recovery_mtud.specs.DiscoveryLog.{loses_probe}
use Rattle.recovery_mtud.specs.MtuEntries.{MtuEntry}
use Rattle.recovery_paths.specs.PathMaking.{PathSettings}
use Rattle.recovery_paths.specs.PathLog.{PerPath, PathHistory, PathsEntry, known_of, on, past_following, pasts_by, returns, reverted, searches}
use Rattle.recovery_events.specs.declared.event.Event.{Event}
use Rattle.recovery_events.specs.declared.event.Event.TheVariants.{PollMtu, Acked, Lost, LossesDone, MtuFound, PeerLimit, ResetPath, NewPath, RevertPath}
use Rattle.recovery_events.specs.declared.event.Answer.{Answer}
use Rattle.recovery_paths.specs.declared.path_pair.PathName.TheVariants.{Current, Previous}
use Rattle.recovery_paths.specs.PathStates.{PathState}
use Rattle.recovery_history.specs.RepliesAfter.{logs_of, pasts_of, inputs_after, first_path, settings_of, RepliesAfter}
use Rattle.recovery_history.specs.History.{Beginning, History, Reply}
use Rattle.recovery_history.specs.ReplyInputs.{ReplyInputs}
use Rattle.recovery_history.specs.Table.{limit}
use Rattle.recovery_history.specs.PartReplies.{AnswersDone, MtuProbeReply, UnlessPathMissing}
use Rattle.recovery_history.proofs.EntryKinds.{PathKind, departing, limiting, searching, resetting, moving, returning, elsewhere, path_kind, paths_kept}
use Rattle.recovery_history.proofs.SearchSaid.{EntersAsTold, entries_on}

-- the search gets no report of it, and it does not start again
abbrev is_unseen : PathKind → Bool
is_unseen departing = false
is_unseen limiting = false
is_unseen searching = false
is_unseen resetting = false
is_unseen moving = false
is_unseen returning = false
is_unseen elsewhere = false
is_unseen kind = true

module _ {K : Type 0} (settings : PathSettings K) (first : PathState K) where
  unseen_one : (entry : PathsEntry) (log : List PathsEntry) → is_unseen (path_kind entry) ≡ true
      → entries_on (pasts_by settings first (entry ∷ log)).current ≡ entries_on (pasts_by settings first log).current
  unseen_one (on Current (searches loses_probe)) log is = absurd (false≢true is)
  unseen_one (on Previous entry) log is = refl
  unseen_one entry log is = grind (arith, is)

module _ {F K Q S M P : Type 0} (beginning : Beginning F K Q S M P) (past : History Q S M P) where
  abbrev known : ReplyInputs K P M
  known = inputs_after beginning past

  -- what happened on the paths up to here
  abbrev log : List PathsEntry
  log = (logs_of beginning past).paths

  -- the entries on the path in use after all this too
  abbrev entries_with : List PathsEntry → List MtuEntry
  entries_with entries = entries_on (pasts_by (settings_of beginning) (first_path beginning) (entries ++ log)).current

  abbrev before : List MtuEntry
  before = entries_with []

  polled : (now : ℕ) (given : Answer Q) (size : Option ℕ) → poll_of now known.paths.current.state.discovery ≡ size
      → MtuProbeReply beginning.queue known now size (Ok given)
      → EntersAsTold beginning past (PollMtu now) (Ok given)
  polled now given size is told = grind (arith, is, told)

  pub entered_one : (event : Event Q S M P) (reply : Reply Q) → RepliesAfter beginning past event reply
      → EntersAsTold beginning past event reply
  entered_one (PollMtu now) (Ok given) told =
      polled now given (poll_of now known.paths.current.state.discovery) refl told.1.1
  entered_one (PeerLimit size) (Ok given) told = refl
  entered_one (MtuFound mtu) (Ok given) told = refl
  entered_one (Acked space.Data now number app_limited) (Ok given) told = grind arith
  entered_one (Acked there now number app_limited) (Ok given) told = grind arith
  entered_one (Lost space.Data number) (Ok given) told = rw told.1.1 (grind arith)
  entered_one (Lost there number) (Ok given) told = grind arith
  entered_one (LossesDone now) (Ok given) told =
      rw told (grind arith)
  entered_one (ResetPath now) (Ok given) told = refl
  entered_one (NewPath now remote true) (Ok given) told = refl
  entered_one (NewPath now remote false) (Ok given) told = refl
  entered_one RevertPath (Ok given) told = go (pasts_of beginning past).previous told
    where
      go : (previous : Option (PathHistory K)) → UnlessPathMissing (option_map known_of previous)
          (λ there. AnswersDone {Q = Q}) (Ok given)
          → (let paths : PerPath (PathHistory K) = record (pasts_of beginning past) { previous = previous } in
          entries_on (reverted (past_following (settings_of beginning) (returns (limit past))) paths).current) ≡ []
      go None told = absurd told.1
      go (Some one) told = refl
  entered_one event (Ok given) told =
      paths_kept beginning.queue known (λ entries. entries_with entries ≡ before) is_unseen refl
      (λ entry earlier is kept. unseen_one (settings_of beginning) (first_path beginning) entry (earlier ++ log) is
      ∙ kept) event (Ok given) refl
  entered_one event (Err refusal) told = refl
