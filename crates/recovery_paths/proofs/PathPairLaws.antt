-- Packets leave the existing paths, one after another: `forget_all` rests on it.
use Rattle.std.proofs.Common.{◌≡◌, ℕ, ◌∷◌, Option, None, Some, option_map, refl}
use Rattle.recovery_spaces.specs.InFlight.{IsCountedIn}
use Rattle.recovery_spaces.specs.Packets.{Packet, Packets}
use Rattle.recovery_spaces.specs.Paths.{generation_of, counters_of}
use Rattle.recovery_spaces.proofs.LedgerLaws.{first_leaves}
use Rattle.recovery_paths.proofs.PathLogLaws.{for_changed}
use Rattle.recovery_paths.specs.PathPair.{on_ledger, IsCountedOnEach, AreCountedOnEach, ledger_without, paths_without, path_left_by}
use Rattle.recovery_paths.specs.PathLog.{PerPath, each_path}
use Rattle.recovery_paths.specs.PathStates.{Path}

module _ {K P M : Type 0} (entry : ℕ × Packet P M) (rest : Packets P M) where
  twice : (path : Option (Path K))
      → option_map (on_ledger (ledger_without rest)) (option_map (path_left_by entry.1) path)
      ≡ option_map (on_ledger (ledger_without (entry ∷ rest))) path
  twice None = refl
  twice (Some path) = refl

  -- the first leaves, and then the others
  pub without_first : (paths : PerPath (Path K))
      → paths_without rest (each_path (path_left_by entry.1) paths) ≡ paths_without (entry ∷ rest) paths
  without_first paths = rw (twice paths.previous) refl

  abbrev AreCountedBy : Packets P M → Path K → Type 0
  AreCountedBy packets path = IsCountedIn (counters_of path.ledger) (generation_of path.ledger) packets

  -- the first is counted, and so are the others then
  pub counted_first : (paths : PerPath (Path K)) → AreCountedOnEach paths (entry ∷ rest)
      → IsCountedOnEach paths entry.1 × AreCountedOnEach (each_path (path_left_by entry.1) paths) rest
  counted_first paths counted =
      let first = first_leaves paths.current.ledger entry rest counted.0 in (
        (first.0, λ path is. (first_leaves path.ledger entry rest (counted.1 path is)).0),
        (
          first.1,
          for_changed (AreCountedBy rest) (path_left_by entry.1) paths.previous
              (λ path is. (first_leaves path.ledger entry rest (counted.1 path is)).1),
        ),
      )
