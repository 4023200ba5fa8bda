-- The inputs from the paths, one entry at a time, and properties of a path that changed. `AllowedLaws`, `BalanceLaws`
-- and the driver's `StateAfterLaws` rest on it.
use Rattle.std.proofs.Common.{◌≡◌, List, [], ◌∷◌, ◌++◌, Option, None, Some, option_map, refl, ap, ◌∙◌}
use Rattle.std.specs.Option.{ForSome}
use Rattle.recovery_paths.specs.declared.path_pair.PathName.TheVariants.{Current, Previous}
use Rattle.recovery_paths.specs.PathMaking.{PathSettings}
use Rattle.recovery_paths.specs.PathLog.{PerPath, PathsEntry, PathEntry, PathHistory, PathReplyInputs, PathOrigin, paths_with, paths_after, pasts_by, each_path, past_with, past_following, known_of, path_known_with, known_following, PathsStep, PathsAfter, on, moves, drops_previous, reverts, fresh, extends, returns, receives}
use Rattle.recovery_paths.specs.PathStates.{PathState}

pub some_same : {A : Type 0} {a b : A} → Some a ≡ Some b → a ≡ b
some_same e = cc

-- what holds for a changed value holds for the option that has it
pub for_changed : {A : Type 0} (Holds : A → Type 0) (change : A → A) (old : Option A)
    → ((a : A) → old ≡ Some a → Holds (change a)) → ForSome (option_map change old) Holds
for_changed Holds change None holds = λ other is. absurd (cc (is))
for_changed Holds change (Some a) holds = λ other is. rw (← some_same is) (holds a refl)

-- mapping after a change is the change of the mapped value
option-each : {P Q : Type 0} (f : P → Q) (change : P → P) (changed : Q → Q) → ((p : P) → changed (f p) ≡ f (change p))
    → (path : Option P) → option_map changed (option_map f path) ≡ option_map f (option_map change path)
option-each f change changed same None = refl
option-each f change changed same (Some path) = ap (λ q. Some q) (same path)

module _ {K : Type 0} (settings : PathSettings K) where
  -- the inputs after an entry are those of the history with the entry
  pub known_of-with : (entry : PathEntry) (past : PathHistory K)
      → path_known_with settings entry (known_of past) ≡ known_of (past_with settings entry past)
  known_of-with (receives bytes) past = refl
  known_of-with entry past = refl

  known_of-following : (following : PathOrigin) (past : PathHistory K)
      → known_following settings following (known_of past)
      ≡ known_of (past_following settings following past)
  known_of-following (fresh generation remote limit now) past = refl
  known_of-following (extends generation remote now) past = refl
  known_of-following (returns limit) past = refl

  each-with : (entry : PathsEntry) (pasts : PerPath (PathHistory K))
      → paths_with (path_known_with settings) (known_following settings) entry (each_path known_of pasts)
      ≡ each_path known_of (paths_with (past_with settings) (past_following settings) entry pasts)
  each-with (on Current entry) pasts = rw (known_of-with entry pasts.current) refl
  each-with (on Previous entry) pasts =
      rw (option-each known_of (past_with settings entry) (path_known_with settings entry) (known_of-with entry)
      pasts.previous) refl
  each-with (moves following) pasts = rw (known_of-following following pasts.current) refl
  each-with drops_previous pasts = refl
  each-with (reverts limit) pasts = returned pasts.previous
    where
      with_previous : Option (PathHistory K) → PerPath (PathHistory K)
      with_previous previous = record pasts { previous = previous }

      returned : (previous : Option (PathHistory K))
          → paths_with (path_known_with settings) (known_following settings) (reverts limit)
          (each_path known_of (with_previous previous))
          ≡ each_path known_of
          (paths_with (past_with settings) (past_following settings) (reverts limit) (with_previous previous))
      returned None = refl
      returned (Some past) = refl

  -- entries before a log, as they change what the log leaves
  pub each-after : (first : PathState K) (entries log : List PathsEntry)
      → paths_after (path_known_with settings) (known_following settings) entries
      (each_path known_of (pasts_by settings first log))
      ≡ each_path known_of (pasts_by settings first (entries ++ log))
  each-after first [] log = refl
  each-after first (entry ∷ entries) log =
      rw (each-after first entries log) (each-with entry (pasts_by settings first (entries ++ log)))

  pub paths_law : (first : PathState K) (entries log : List PathsEntry) (old new : PerPath (PathReplyInputs K))
      → PathsAfter settings first log old → PathsStep settings entries old new
      → PathsAfter settings first (entries ++ log) new
  paths_law first entries log old new left step = step ∙ rw left (each-after first entries log)
