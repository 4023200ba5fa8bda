-- The existing paths, their generations, and how many were made are as the history says. `RejectionsLaws`,
-- `CountedLaws` and `OverflowLaws` rest on it.
use Rattle.std.proofs.Common.{◌≡◌, ◌+◌, ℕ, true, false, [], ◌∷◌, Option, None, Some, Ok, refl, ap, ◌∙◌}
use Rattle.std.specs.Prelude.{option_map}
use Rattle.recovery_paths.specs.declared.path_pair.PathName.{PathName}
use Rattle.recovery_paths.specs.declared.path_pair.PathName.TheVariants.{Current, Previous}
use Rattle.recovery_paths.specs.PathLog.{PerPath, PathHistory, each_path, moved_to, path_of, past_following, past_with, receives, returns, reverted, known_of, is_validated}
use Rattle.recovery_events.specs.declared.event.Event.TheVariants.{NewPath, DropPrevious, RevertPath}
use Rattle.recovery_history.specs.RepliesAfter.{pasts_of, inputs_after, settings_of}
use Rattle.recovery_history.specs.History.{Beginning, History}
use Rattle.recovery_history.specs.Table.{limit}
use Rattle.recovery_history.specs.Promises.Paths.{paths_made, generations, generation_by}
use Rattle.recovery_history.proofs.SeenLaws.{IsStill, IsStillOn, map_kept, stays_seen}

-- the generation of the path in use, with the others unchanged
abbrev beside : PerPath ℕ → Option ℕ → PerPath ℕ
beside paths previous = record paths { previous = previous }

-- a path that is used again changes no count
reverted_made : (paths : PerPath ℕ) (previous : Option ℕ)
    → (reverted (λ n. n) (beside paths previous)).made ≡ paths.made
reverted_made paths None = refl
reverted_made paths (Some n) = refl

-- how many paths were made
pub made_same : {Q S M P : Type 0} (history : History Q S M P) → (generations history).made ≡ paths_made history
made_same [] = refl
made_same ((NewPath now remote is_fresh, Ok answer) ∷ earlier) = ap (λ n. n + 1) (made_same earlier)
made_same ((DropPrevious, Ok answer) ∷ earlier) = made_same earlier
made_same ((RevertPath, Ok answer) ∷ earlier) =
    reverted_made (generations earlier) (generations earlier).previous ∙ made_same earlier
made_same (happened ∷ earlier) = made_same earlier

module _ {F K Q S M P : Type 0} (beginning : Beginning F K Q S M P) where
  -- the generations of the paths
  abbrev generations_in : PerPath (PathHistory K) → PerPath ℕ
  generations_in paths = each_path (λ past. past.generation) paths

  still : IsStill (settings_of beginning) generations_in
  still (receives bytes) paths = refl
  still entry paths = refl

  still_on : IsStillOn (settings_of beginning) generations_in
  still_on paths = (
    λ bytes. ap (beside (generations_in paths)) (map_kept (λ past. past.generation)
        (past_with (settings_of beginning) (receives bytes)) (λ past. refl) paths.previous),
    ap (beside (generations_in paths)) (map_kept (λ past. past.generation)
        (past_with (settings_of beginning) is_validated) (λ past. refl) paths.previous),
  )

  -- a path that is used again has its own
  returned : (limit : Option ℕ) (paths : PerPath (PathHistory K)) (previous : Option (PathHistory K))
      → (let old : PerPath (PathHistory K) = record paths { previous = previous } in
      generations_in (reverted (past_following (settings_of beginning) (returns limit)) old)
      ≡ reverted (λ n. n) (generations_in old))
  returned limit paths None = refl
  returned limit paths (Some past) = refl

  all_made : (history : History Q S M P) → generations_in (pasts_of beginning history) ≡ generations history
  all_made [] = refl
  all_made ((NewPath now remote true, Ok answer) ∷ earlier) =
      ap (λ (g : PerPath ℕ). moved_to (g.made + 1) g) (all_made earlier)
      ∙ ap (λ n. moved_to (n + 1) (generations earlier)) (made_same earlier)
  all_made ((NewPath now remote false, Ok answer) ∷ earlier) =
      ap (λ (g : PerPath ℕ). moved_to (g.made + 1) g) (all_made earlier)
      ∙ ap (λ n. moved_to (n + 1) (generations earlier)) (made_same earlier)
  all_made ((DropPrevious, Ok answer) ∷ earlier) =
      ap (λ (g : PerPath ℕ). beside g None) (all_made earlier)
  all_made ((RevertPath, Ok answer) ∷ earlier) =
      returned (limit earlier) (pasts_of beginning earlier) (pasts_of beginning earlier).previous
      ∙ ap (λ (g : PerPath ℕ). reverted (λ n. n) g) (all_made earlier)
  all_made ((event, reply) ∷ earlier) =
      stays_seen beginning generations_in still still_on earlier event reply ∙ all_made earlier

  -- this many were made
  pub made_told : (history : History Q S M P) → (inputs_after beginning history).paths.made ≡ paths_made history
  made_told history = ap (λ (g : PerPath ℕ). g.made) (all_made history) ∙ made_same history

  -- a path that exists has the generation that the history says, and a missing one has none
  pub generation_told : (history : History Q S M P) (name : PathName)
      → option_map (λ path. path.generation) (path_of name (inputs_after beginning history).paths)
      ≡ generation_by name history
  generation_told history Current = ap (λ (g : PerPath ℕ). Some g.current) (all_made history)
  generation_told history Previous =
      twice (pasts_of beginning history).previous ∙ ap (λ (g : PerPath ℕ). g.previous) (all_made history)
    where
      twice : (previous : Option (PathHistory K))
          → option_map (λ path. path.generation) (option_map known_of previous)
          ≡ option_map (λ past. past.generation) previous
      twice None = refl
      twice (Some past) = refl
