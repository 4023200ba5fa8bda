-- What is read of the paths and is not changed by what happens on one of them is preserved by every event except those
-- that make a path, drop one or use one again. `MadeLaws` and `LeftMtuLaws` rest on it.
use Rattle.std.proofs.Common.{ℕ, ◌≡◌, Bool, true, false, List, ◌∷◌, ◌++◌, Ok, Err, refl, ◌∙◌, arith}
use Rattle.recovery_paths.specs.PathMaking.{PathSettings}
use Rattle.recovery_paths.specs.PathLog.{PerPath, PathEntry, PathHistory, PathsEntry, on, is_validated, on_path_of, past_with, pasts_by, receives}
use Rattle.recovery_paths.specs.declared.path_pair.PathName.TheVariants.{Current, Previous}
use Rattle.recovery_paths.specs.PathStates.{PathState}
use Rattle.recovery_events.specs.declared.event.Event.{Event}
use Rattle.recovery_events.specs.declared.event.Event.TheVariants.{NewPath, DropPrevious, RevertPath}
use Rattle.recovery_history.specs.RepliesAfter.{logs_of, pasts_of, inputs_after, first_path, settings_of}
use Rattle.recovery_history.specs.History.{Beginning, History, Reply}
use Rattle.recovery_history.specs.ReplyInputs.{ReplyInputs}
use Rattle.recovery_history.proofs.EntryKinds.{PathKind, moving, dropping, returning, elsewhere, path_kind, paths_kept}
use Rattle.std.specs.Prelude.{Option, option_map}

-- what happens on the path in use does not change it
abbrev pub IsStill : {K A : Type 0} → PathSettings K → (PerPath (PathHistory K) → A) → Type 0
IsStill {K} settings see = (entry : PathEntry) (paths : PerPath (PathHistory K))
    → see (on_path_of Current (past_with settings entry) paths) ≡ see paths

-- nor do datagrams received on the previous path, or its validation
abbrev pub IsStillOn : {K A : Type 0} → PathSettings K → (PerPath (PathHistory K) → A) → Type 0
IsStillOn {K} settings see = (paths : PerPath (PathHistory K))
    → ((bytes : ℕ) → see (on_path_of Previous (past_with settings (receives bytes)) paths) ≡ see paths)
    × (see (on_path_of Previous (past_with settings is_validated) paths) ≡ see paths)

-- what leaves a value unchanged leaves an option unchanged
pub map_kept : {A B : Type 0} (see : A → B) (f : A → A) → ((a : A) → see (f a) ≡ see a) → (o : Option A)
    → option_map see (option_map f o) ≡ option_map see o
map_kept see f same o = grind (arith, same)

-- it neither makes a path nor drops one nor uses one again
abbrev stays_there : PathKind → Bool
stays_there moving = false
stays_there dropping = false
stays_there returning = false
stays_there elsewhere = false
stays_there kind = true

module _ {K A : Type 0} (settings : PathSettings K) (first : PathState K) (see : PerPath (PathHistory K) → A)
    (still : IsStill settings see) (still_on : IsStillOn settings see) where
  one_seen : (entry : PathsEntry) (log : List PathsEntry) → stays_there (path_kind entry) ≡ true
      → see (pasts_by settings first (entry ∷ log)) ≡ see (pasts_by settings first log)
  one_seen (on Current entry) log is = still entry (pasts_by settings first log)
  one_seen (on Previous (receives bytes)) log is = (still_on (pasts_by settings first log)).0 bytes
  one_seen (on Previous is_validated) log is = (still_on (pasts_by settings first log)).1
  one_seen entry log is = absurd cc

module _ {F K Q S M P A : Type 0} (beginning : Beginning F K Q S M P) (see : PerPath (PathHistory K) → A)
    (still : IsStill (settings_of beginning) see) (still_on : IsStillOn (settings_of beginning) see)
    (past : History Q S M P) where
  abbrev known : ReplyInputs K P M
  known = inputs_after beginning past

  abbrev log : List PathsEntry
  log = (logs_of beginning past).paths

  -- nothing is stated about events that do so
  abbrev Stays : Event Q S M P → Reply Q → Type 0
  Stays (NewPath now remote is_fresh) (Ok given) = Unit {0}
  Stays DropPrevious (Ok given) = Unit {0}
  Stays RevertPath (Ok given) = Unit {0}
  Stays event reply = see (pasts_of beginning ((event, reply) ∷ past)) ≡ see (pasts_of beginning past)

  pub stays_seen : (event : Event Q S M P) (reply : Reply Q) → Stays event reply
  stays_seen (NewPath now remote is_fresh) (Ok given) = tt
  stays_seen DropPrevious (Ok given) = tt
  stays_seen RevertPath (Ok given) = tt
  stays_seen event (Ok given) =
      let settings = settings_of beginning in
      let first = first_path beginning in
      paths_kept beginning.queue known
      (λ entries. see (pasts_by settings first (entries ++ log)) ≡ see (pasts_of beginning past)) stays_there refl
      (λ entry entries is kept. one_seen settings first see still still_on entry (entries ++ log) is ∙ kept) event
      (Ok given) refl
  stays_seen (NewPath now remote is_fresh) (Err refusal) = refl
  stays_seen event (Err refusal) = refl
