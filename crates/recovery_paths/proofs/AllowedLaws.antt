-- What checked transmissions preserve on one path holds for each existing path, whatever happens. `PassedLaws` and
-- `SearchedLaws` rest on it.
use Rattle.std.proofs.Common.{arith, ◌≡◌, List, [], ◌∷◌, ◌++◌, Option, None, Some, refl}
use Rattle.std.specs.Option.{ForSome}
use Rattle.std.proofs.lemmas.Option.{none-some}
use Rattle.recovery_congestion.specs.Controllers.{ControllerSemantics}
use Rattle.recovery_mtud.proofs.SearchRunLaws.{IsInTurn}
use Rattle.recovery_paths.specs.declared.path_pair.PathName.TheVariants.{Current, Previous}
use Rattle.recovery_paths.specs.PathMaking.{PathSettings}
use Rattle.recovery_paths.specs.PathStates.{PathState, path_delay}
use Rattle.recovery_paths.specs.PathLog.{PerPath, OnEachPath, PathsEntry, PathEntry, PathHistory, PathReplyInputs, PathOrigin, paths_with, paths_after, pasts_by, each_path, path_state_of, known_of, path_known_with, known_following, past_with, past_following, reverted, on, moves, drops_previous, reverts, returns, searches, passes}
use Rattle.recovery_paths.proofs.PathLogLaws.{some_same, for_changed, each-after}

-- what passes was not delayed, and a limit is reported while no search runs
abbrev pub IsAllowed : {K : Type 0} → ControllerSemantics K → PathState K → PathEntry → Type 0
IsAllowed words state (passes now bytes) = path_delay words now bytes state ≡ None
IsAllowed words state (searches call) = IsInTurn call state.discovery
IsAllowed words state entry = Unit {0}

-- nothing passes, and nothing is reported to the search
abbrev pub PassesNothing : PathEntry → Type 0
PassesNothing (passes now bytes) = ⊥
PassesNothing (searches call) = ⊥
PassesNothing entry = Unit {0}

module _ {K : Type 0} (settings : PathSettings K) where
  -- it continues to hold for a path as long as what happens is allowed, and for a path that follows it
  pub record IsKept (Holds : PathHistory K → Type 0) : Type 0 where
    pub by_entry : (entry : PathEntry) (past : PathHistory K) → IsAllowed settings.words (path_state_of past) entry
        → Holds past → Holds (past_with settings entry past)
    pub following : (following : PathOrigin) (past : PathHistory K) → Holds past
        → Holds (past_following settings following past)

  -- ---- the entries of one event, the newest first

  -- what passes does so on the path in use, and is allowed there
  abbrev pub IsAllowedOn : PerPath (PathReplyInputs K) → PathsEntry → Type 0
  IsAllowedOn paths (on Current entry) = IsAllowed settings.words paths.current.state entry
  IsAllowedOn paths (on Previous entry) = PassesNothing entry
  IsAllowedOn paths (moves following) = Unit {0}
  IsAllowedOn paths drops_previous = Unit {0}
  IsAllowedOn paths (reverts limit) = Unit {0}

  abbrev pub AreAllowed : PerPath (PathReplyInputs K) → List PathsEntry → Type 0
  AreAllowed paths [] = Unit {0}
  AreAllowed paths (entry ∷ earlier) =
      IsAllowedOn (paths_after (path_known_with settings) (known_following settings) earlier paths) entry
      × AreAllowed paths earlier

  -- if nothing passes and nothing is reported to a search, all is allowed
  allowed_anywhere : (entry : PathEntry) (state : PathState K) → PassesNothing entry
      → IsAllowed settings.words state entry
  allowed_anywhere entry state nothing = grind arith

  module _ (Holds : PathHistory K → Type 0) (kept : IsKept Holds) where
    -- an entry preserves it
    entry_kept : (entry : PathsEntry) (pasts : PerPath (PathHistory K))
        → IsAllowedOn (each_path known_of pasts) entry → OnEachPath Holds pasts
        → OnEachPath Holds (paths_with (past_with settings) (past_following settings) entry pasts)
    entry_kept (on Current entry) pasts allowed holds = (kept.by_entry entry pasts.current allowed holds.0, holds.1)
    entry_kept (on Previous entry) pasts allowed holds = (
      holds.0,
      for_changed Holds (past_with settings entry) pasts.previous (λ path is.
          kept.by_entry entry path (allowed_anywhere entry (path_state_of path) allowed) (holds.1 path is)),
    )
    entry_kept (moves following) pasts allowed holds =
        (kept.following following pasts.current holds.0, λ past is. rw (← some_same is) holds.0)
    entry_kept drops_previous pasts allowed holds = (holds.0, λ past is. absurd (none-some _ is))
    entry_kept (reverts limit) pasts allowed holds = returned pasts.previous holds.1
      where
        returned : (previous : Option (PathHistory K)) → ForSome previous Holds
            → OnEachPath Holds
            (reverted (past_following settings (returns limit)) (record pasts { previous = previous }))
        returned None none = (holds.0, none)
        returned (Some past) was =
            (kept.following (returns limit) past (was past refl), λ past is. absurd (none-some _ is))

    -- an event's entries preserve it
    pub kept_after : (first : PathState K) (entries log : List PathsEntry) → let pasts = pasts_by settings first log in
        AreAllowed (each_path known_of pasts) entries → OnEachPath Holds pasts
        → OnEachPath Holds (pasts_by settings first (entries ++ log))
    kept_after first [] log allowed holds = holds
    kept_after first (entry ∷ earlier) log allowed holds =
        entry_kept entry (pasts_by settings first (earlier ++ log))
        (rw (← each-after settings first earlier log) allowed.0) (kept_after first earlier log allowed.1 holds)
