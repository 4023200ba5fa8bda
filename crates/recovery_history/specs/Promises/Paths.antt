-- Paths (RFC 9000, 9.3): the one in use, and the one in use before it, until it is dropped or used again (9.3.2). The
-- generation of a path is how many were made before it.
use Rattle.std.specs.Prelude.{ℕ, ◌+◌, [], ◌∷◌, Option, None, Ok}
use Rattle.recovery_paths.specs.declared.path_pair.PathName.{PathName}
use Rattle.recovery_paths.specs.PathLog.{PerPath, path_of, moved_to, reverted}
use Rattle.recovery_events.specs.declared.event.Event.TheVariants.{NewPath, DropPrevious, RevertPath}
use Rattle.recovery_history.specs.History.{History}

module _ {Q S M P : Type 0} where
  -- how many paths were made after the first one
  abbrev pub paths_made : History Q S M P → ℕ
  paths_made [] = 0
  paths_made ((NewPath now remote is_fresh, Ok answer) ∷ earlier) = paths_made earlier + 1
  paths_made (happened ∷ earlier) = paths_made earlier

  -- the generations of the existing paths: a new one has the count as its own, and one that is used again has the one
  -- with which it was made
  abbrev pub generations : History Q S M P → PerPath ℕ
  generations [] = record { current = 0; previous = None; made = 0 }
  generations ((NewPath now remote is_fresh, Ok answer) ∷ earlier) =
      moved_to (paths_made earlier + 1) (generations earlier)
  generations ((DropPrevious, Ok answer) ∷ earlier) = record (generations earlier) { previous = None }
  generations ((RevertPath, Ok answer) ∷ earlier) = reverted (λ generation. generation) (generations earlier)
  generations (happened ∷ earlier) = generations earlier

  -- the generation of a path, if it exists
  abbrev pub generation_by : PathName → History Q S M P → Option ℕ
  generation_by name history = path_of name (generations history)
