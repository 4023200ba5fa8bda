-- The MTU search of the path in use began without any call. The driver's `BurstLaws` rest on it.
use Rattle.std.proofs.Common.{arith, ℕ, List, [], ◌∷◌, Option}
use Rattle.recovery_mtud.specs.MtuEntries.{IsFreshDiscovery}
use Rattle.recovery_paths.specs.declared.path_pair.PathName.TheVariants.{Current}
use Rattle.recovery_paths.specs.PathLog.{PathsEntry, PathEntry, PathHistory, pasts_by, past_with, on, moves, reverts, fresh, returns, receives}
use Rattle.recovery_paths.specs.PathMaking.{PathSettings}
use Rattle.recovery_paths.specs.PathStates.{PathState}

-- for one path
abbrev pub WasUntold : {K : Type 0} → PathHistory K → Type 0
WasUntold past = IsFreshDiscovery past.kept.discovery

module _ {K : Type 0} (settings : PathSettings K) (made : (limit : Option ℕ) → IsFreshDiscovery
    (settings.discovery limit))
  where
    -- an entry does not change how the search was made
    untold_law : (entry : PathEntry) (past : PathHistory K) → WasUntold past → WasUntold (past_with settings entry past)
    untold_law (receives bytes) past untold = untold
    untold_law entry past untold = untold

    -- whatever happens, the path in use has one that was made so
    pub untold_by : (first : PathState K) → IsFreshDiscovery first.discovery → (log : List PathsEntry)
        → WasUntold (pasts_by settings first log).current
    untold_by first untold [] = untold
    untold_by first untold (on Current entry ∷ log) = untold_law entry _ (untold_by first untold log)
    untold_by first untold (moves (fresh generation remote limit now) ∷ log) = made limit
    untold_by first untold (moves (returns limit) ∷ log) = grind (arith, made limit)
    untold_by first untold (reverts limit ∷ log) =
        grind (arith, made limit, untold_by first untold log)
    untold_by first untold (entry ∷ log) = untold_by first untold log
